-- The plan of a register file.
use Rattle.std.specs.Prelude.{◌<◌, ◌≤◌, ℕ, Bool, List, refl}
use Rattle.std.proofs.Common.{arith}
use Rattle.word.specs.declared.Letter.TheVariants.{B as letter_b}
use Rattle.kinds.specs.declared.bits64.Bits64.{Bits64}
use Rattle.node.specs.Nodes.{InRange}
use Rattle.memory.specs.Meaning.{Planned}
use Rattle.memory.proofs.Singles.{single_planned}
use Rattle.regfile.specs.declared.slot.Slot.{Slot}
use Rattle.regfile.specs.Limits.{max_words}
use Rattle.regfile.specs.RegFiles.{own_macro, filed}

own_ranged : (d : ℕ) → d ≤ max_words → 0 < d → InRange (own_macro d)
own_ranged d few some = search (arith)

-- a register file is its one macro, or void
pub file_planned : (d : ℕ) (words : List Bits64) (used : List Bool) (slots : List Slot) → d ≤ max_words → Planned letter_b (filed d words used slots)
file_planned d words used slots few =
    single_planned (own_macro d) (filed d words used slots) (record { reads = refl; writes = refl; depth = refl; plan = refl }) (own_ranged d few)
