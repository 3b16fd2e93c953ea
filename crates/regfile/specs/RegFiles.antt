-- The register file: four read and two write ports over words of 64 bits.
use Rattle.std.specs.Prelude.{ℕ, Bool, false, cond, List, [], ◌∷◌, nat_lt, slice_index_or}
use Rattle.word.specs.declared.Letter.TheVariants.{B as letter_b}
use Rattle.kinds.specs.declared.bits64.Bits64.{Bits64}
use Rattle.kinds.specs.Bits.{bits64_zero}
use Rattle.node.specs.declared.node.Macro.{Macro}
use Rattle.node.specs.declared.node.Node.{Node}
use Rattle.node.specs.declared.node.Node.TheVariants.{Macro as macro_node}
use Rattle.memory.specs.Meaning.{Meaning}
use Rattle.port.specs.Ports.{latched}
use Rattle.regfile.specs.Limits.{read_ports, write_ports}
use Rattle.regfile.specs.Slots.{port_at, latch_at}
use Rattle.regfile.specs.declared.slot.Slot.{Slot}
use Rattle.regfile.specs.declared.regfile.RegFile.{RegFile}

-- the macro of a register file of this depth: kind 2, letter B, four read and two write ports
abbrev pub own_macro : ℕ → Macro
own_macro d = record { kind = 2; letter = letter_b; reads = read_ports; writes = write_ports; depth = d }

-- the plan is the one macro, or nothing where the register file is void
abbrev pub plan_of : ℕ → List Node
plan_of d = cond (nat_lt 0 d) (macro_node (own_macro d) ∷ []) []

-- what a register file is by its depth, its words, its marks of used read ports, and its write ports with their
-- latches; the content of a latch is open while its port is free
abbrev pub filed : ℕ → List Bits64 → List Bool → List Slot → Meaning Bits64
filed d words used slots = record {
  reads = cond (nat_lt 0 d) read_ports 0;
  writes = cond (nat_lt 0 d) write_ports 0;
  depth = d;
  word = λ x. slice_index_or words x bits64_zero;
  used = λ q. slice_index_or used q false;
  port = λ q. latched (port_at slots q) (latch_at slots q);
  plan = plan_of d;
}

-- what a register file means
abbrev pub meant : RegFile → Meaning Bits64
meant s = filed s.depth s.words s.used s.slots

-- every register file is in order, by its ghost fields
abbrev pub Always : RegFile → Type 0
Always s = Unit {0}
