use Rattle.std.proofs.Common.{take}
use Rattle.text.specs.Lines.{line_text, Adds}
use Rattle.text.proofs.line.LineBuffer.word.Given as goal

abbrev pub invariant-loop-b : goal.invariant-loop-b
invariant-loop-b l = Adds (line_text l.initial.line) (take l.b-index l.word) (line_text l.line)
