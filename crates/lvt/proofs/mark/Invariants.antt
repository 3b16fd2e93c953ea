use Rattle.std.proofs.Common.{◌≤◌, length}
use Rattle.lvt.proofs.Marking.{Passed}
use Rattle.lvt.proofs.mark.Given as goal

-- the ports passed so far have set their marks, and no other mark has changed
abbrev pub invariant-loop-port : goal.invariant-loop-port
invariant-loop-port g l =
    g.M.Memory.ordered l.memory → (g.M.Memory.meaning l.memory).depth ≤ length l.initial.marks → Passed (g.M.Memory.meaning l.memory) l.port l.half l.initial.marks l.marks
