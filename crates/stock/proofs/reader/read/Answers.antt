use Rattle.stock.proofs.Sole.{read_sole}
use Rattle.stock.proofs.reader.read.Goals as goal

pub returns : goal.returns
returns c = let says = c.read_lines.ensures in record { says = says; sole = read_sole _ _ says }
