-- The array macro: one read and one write port over a list of cells.
use Rattle.std.specs.Prelude.{◌≡◌, ℕ, ◌<◌, Bool, cond, List, [], ◌∷◌, length, vec_items, nat_lt, slice_index_or}
use Rattle.word.specs.declared.Letter.{Letter}
use Rattle.node.specs.declared.node.Macro.{Macro}
use Rattle.node.specs.declared.node.Node.{Node}
use Rattle.node.specs.declared.node.Node.TheVariants.{Macro as macro_node}
use Rattle.memory.specs.Meaning.{Meaning}
use Rattle.port.specs.declared.WritePort.{WritePort}
use Rattle.port.specs.Ports.{latched}
use Rattle.array.specs.declared.array.Array.{Array}

-- the macro of an array of this letter and depth: kind 1, with a read and a write port
abbrev pub own_macro : Letter → ℕ → Macro
own_macro k d = record { kind = 1; letter = k; reads = 1; writes = 1; depth = d }

-- the plan is the one macro, or nothing where the array is void
abbrev pub plan_of : Letter → ℕ → List Node
plan_of k d = cond (nat_lt 0 d) (macro_node (own_macro k d) ∷ []) []

-- what an array of letter k and zero z is: cell x holds word x, and the cell at the depth is the latch,
-- whose content is open while the port is free
abbrev pub arrayed : {W : Type 0} → Letter → W → List W → ℕ → Bool → WritePort → Meaning W
arrayed k z cells d u p = record {
  reads = cond (nat_lt 0 d) 1 0;
  writes = cond (nat_lt 0 d) 1 0;
  depth = d;
  word = λ x. slice_index_or cells x z;
  used = λ _. u;
  port = λ _. latched p (slice_index_or cells d z);
  plan = plan_of k d;
}

-- what an array means
abbrev pub meant : {W : Type 0} → Letter → W → Array W → Meaning W
meant k z s = arrayed k z (vec_items s.cells) s.depth s.used s.port

-- every array is in order, by its ghost fields
abbrev pub Always : {W : Type 0} → Array W → Type 0
Always s = Unit {0}

-- the cells that are no word and no latch are as they were: those above the depth d, and all of a void array
pub record Spared {W : Type 0} (z : W) (before after : List W) (d : ℕ) : Type 0 where
  pub length : length after ≡ length before
  pub above : (x : ℕ) → d < x → slice_index_or after x z ≡ slice_index_or before x z
  pub void : d ≡ 0 → after ≡ before
