use Rattle.std.proofs.Common.{◌≡◌, take, drop}
use Rattle.memory.specs.Meaning.{SameShape}
use Rattle.runs.proofs.Loop.{Running}
use Rattle.runs.proofs.runner.try_calls.Given as goal

-- the first calls are tried, and past their answers the buffer is as it was
abbrev pub invariant-loop-i : goal.invariant-loop-i
invariant-loop-i g l =
    g.M.Memory.ordered l.m
    × SameShape (g.M.Memory.meaning l.initial.m) (g.M.Memory.meaning l.m)
    × Running g.M.Word.Word.nought (take l.i l.call-items) (take l.i l.answers) (g.M.Memory.meaning l.m)
    × (drop l.i l.answers ≡ drop l.i l.initial.answers)
