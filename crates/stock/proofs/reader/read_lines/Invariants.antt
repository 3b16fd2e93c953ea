use Rattle.stock.proofs.Turns.{Sofar}
use Rattle.stock.proofs.reader.read_lines.Given as goal

abbrev pub invariant-loop-line : goal.invariant-loop-line
invariant-loop-line l = Sofar l.text l.stock l.line-iterator
