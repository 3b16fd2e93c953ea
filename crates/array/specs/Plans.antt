-- The plan of an array.
use Rattle.std.specs.Prelude.{◌<◌, ◌≤◌, ℕ, Bool, List, refl}
use Rattle.std.proofs.Common.{arith}
use Rattle.word.specs.declared.Letter.{Letter}
use Rattle.node.specs.Nodes.{InRange}
use Rattle.memory.specs.Meaning.{Planned}
use Rattle.memory.proofs.Singles.{single_planned}
use Rattle.port.specs.declared.WritePort.{WritePort}
use Rattle.array.specs.Limits.{max_words}
use Rattle.array.specs.Arrays.{own_macro, arrayed}

own_ranged : (k : Letter) (d : ℕ) → d ≤ max_words → 0 < d → InRange (own_macro k d)
own_ranged k d few some = search (arith)

-- an array is its one macro, or void
pub array_planned : {W : Type 0} (k : Letter) (z : W) (cells : List W) (d : ℕ) (u : Bool) (p : WritePort) → d ≤ max_words → Planned k (arrayed k z cells d u p)
array_planned k z cells d u p few =
    single_planned (own_macro k d) (arrayed k z cells d u p) (record { reads = refl; writes = refl; depth = refl; plan = refl }) (own_ranged k d few)
