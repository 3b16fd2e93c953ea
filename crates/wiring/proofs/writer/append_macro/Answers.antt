use Rattle.std.proofs.Common.{rules}
use Rattle.wiring.proofs.writer.append_macro.Goals as goal

pub returns : goal.returns
returns c = c.append_line.ensures _ (search rules)
