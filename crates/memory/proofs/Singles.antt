-- The plan of a memory that is one macro, or void.
use Rattle.std.proofs.Common.{◌≡◌, ◌<◌, Bool, true, false, cond, [], ◌∷◌, nat_lt, refl, arith, ltb-true, ltb-false}
use Rattle.node.specs.declared.node.Macro.{Macro}
use Rattle.node.specs.declared.node.Node.TheVariants.{Macro as macro_node}
use Rattle.node.specs.Nodes.{InRange}
use Rattle.node.specs.Plans.{single}
use Rattle.memory.specs.Meaning.{Meaning, Planned, whole, void}

-- where the macro's depth is not 0 it is the whole plan, and else there is nothing
pub record Single {W : Type 0} (o : Macro) (m : Meaning W) : Type 0 where
  pub reads : m.reads ≡ cond (nat_lt 0 o.depth) o.reads 0
  pub writes : m.writes ≡ cond (nat_lt 0 o.depth) o.writes 0
  pub depth : m.depth ≡ o.depth
  pub plan : m.plan ≡ cond (nat_lt 0 o.depth) (macro_node o ∷ []) []

single_by : {W : Type 0} (b : Bool) (o : Macro) (m : Meaning W) → nat_lt 0 o.depth ≡ b → Single o m → (0 < o.depth → InRange o) → Planned o.letter m
single_by true o m e s ranged =
    whole (rw (s.reads, s.writes, s.depth, s.plan, e) (omega arith, single (ranged (ltb-true 0 o.depth e))))
single_by false o m e s ranged =
    let none = ltb-false 0 o.depth e in
    void (rw (s.plan, e) refl) (rw (s.reads, e) refl) (rw (s.writes, e) refl) (rw s.depth (omega arith))

pub single_planned : {W : Type 0} (o : Macro) (m : Meaning W) → Single o m → (0 < o.depth → InRange o) → Planned o.letter m
single_planned o m s ranged = single_by (nat_lt 0 o.depth) o m refl s ranged
