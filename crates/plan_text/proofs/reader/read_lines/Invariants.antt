use Rattle.plan_text.proofs.Turns.{Sofar}
use Rattle.plan_text.proofs.reader.read_lines.Given as goal

abbrev pub invariant-loop-line : goal.invariant-loop-line
invariant-loop-line l = Sofar l.text l.initial.nodes l.nodes l.count l.line-iterator
