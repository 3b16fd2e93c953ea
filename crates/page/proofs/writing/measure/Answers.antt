use Rattle.std.proofs.Common.{rules}
use Rattle.page.proofs.Texts.{laid_measured}
use Rattle.page.proofs.writing.measure.Goals as goal

pub returns : goal.returns
returns g c =
    let start = c.new-cursor.ensures in
    laid_measured c.args.room c.new-cursor.result c.lay.new.cursor _ (search rules) start.1 start.2 c.lay.ensures (search rules)
