use Rattle.std.proofs.Common.{◌≤◌, take}
use Rattle.arrayvec.specs.ArrayVec.{array_vec_len}
use Rattle.node.specs.Plans.{Plans}
use Rattle.node.specs.Stacks.{held}
use Rattle.node.proofs.verdict.stacked.Given as goal

abbrev pub invariant-loop-i : goal.invariant-loop-i
invariant-loop-i l = Plans (take l.i-counter l.nodes) (held l.stack) × (array_vec_len l.stack ≤ l.i-counter)
