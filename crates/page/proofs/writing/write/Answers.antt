use Rattle.std.proofs.Common.{rules}
use Rattle.page.proofs.Texts.{laid_written}
use Rattle.page.proofs.writing.write.Goals as goal

pub returns : goal.returns
returns g c =
    let start = c.new-cursor.ensures in
    laid_written c.args.out.now c.in_ok-size.size c.new-cursor.result c.lay.new.cursor (g.met.T.Text.sole c.args.text.now) (search rules) (search rules) (search rules) (search rules) c.lay.ensures (search rules)
