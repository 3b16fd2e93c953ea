use Rattle.node.proofs.Sole.{checked_sole}
use Rattle.node.proofs.verdict.check.Goals as goal

pub returns : goal.returns
returns c = let says = c.judge.ensures in record { says = says; sole = checked_sole _ _ says }
