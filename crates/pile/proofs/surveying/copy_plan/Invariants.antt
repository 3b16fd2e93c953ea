use Rattle.std.proofs.Common.{◌≡◌, take}
use Rattle.pile.proofs.surveying.copy_plan.Given as goal

-- the nodes so far are copied
abbrev pub invariant-loop-i : goal.invariant-loop-i
invariant-loop-i g l = g.M.Memory.ordered l.memory → take l.i l.slot-items ≡ take l.i (g.M.Memory.meaning l.memory).plan
