use Rattle.std.proofs.Common.{length}
use Rattle.text.proofs.Walks.{Walk}
use Rattle.text.proofs.fields.cut.Given as goal

abbrev pub invariant-loop-left : goal.invariant-loop-left
invariant-loop-left l = Walk l.separator l.bytes l.left l.count

abbrev pub decreases-loop-left : goal.decreases-loop-left
decreases-loop-left l = length l.left
