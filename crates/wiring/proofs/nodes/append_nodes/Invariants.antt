use Rattle.std.proofs.Common.{ℕ, ◌≤◌, List, take}
use Rattle.arrayvec.specs.ArrayVec.{array_vec_len}
use Rattle.wiring.specs.Parts.{held, Parts, Continues}
use Rattle.wiring.proofs.nodes.append_nodes.Given as goal

abbrev pub invariant-loop-i : goal.invariant-loop-i
invariant-loop-i l =
    (ls : List (List ℕ))
    × Parts (take l.i l.nodes) (held l.stack) ls
    × Continues l.initial.cursor ls l.cursor
    × (array_vec_len l.stack ≤ l.i)
