use Rattle.plan_text.proofs.Sole.{read_sole}
use Rattle.plan_text.proofs.reader.read.Goals as goal

pub returns : goal.returns
returns c = let says = c.read_lines.ensures in record { says = says; sole = read_sole _ _ _ _ says }
