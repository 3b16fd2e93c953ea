use Rattle.text.proofs.Numerals.{Sofar}
use Rattle.text.proofs.numbers.number.Given as goal

abbrev pub invariant-loop-b : goal.invariant-loop-b
invariant-loop-b l = Sofar l.field l.b-index l.n
