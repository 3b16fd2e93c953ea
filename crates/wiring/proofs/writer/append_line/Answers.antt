use Rattle.std.proofs.Common.{◌∙◌}
use Rattle.wiring.proofs.Continuing.{continues_line}
use Rattle.wiring.proofs.writer.append_line.Goals as goal

pub returns : goal.returns
returns c = λ bytes is. continues_line c.args.cursor.now c.append.new.self bytes c.append.ensures (c.as_bytes.ensures ∙ is)
