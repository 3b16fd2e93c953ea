use Rattle.std.proofs.Common.{refl, ◌∙◌}
use Rattle.page.proofs.Cursors.{grows_by, lays}
use Rattle.planner.proofs.Laying.{lines_laid}
use Rattle.planner.proofs.listing.ListingText.lay.Goals as goal

pub returns : goal.returns
returns c =
    let l = c.args.self.now in
    let first = grows_by c.args.cursor.now c.append.new.self (c.as_bytes.ensures ∙ c.top_line.ensures) c.append.ensures in
    let last = grows_by c.append_kinds.new.cursor c.append-2.new.self (c.as_bytes-2.ensures ∙ c.verdict_line.ensures) c.append-2.ensures in
    lays refl (lines_laid l.nodes.now l.top l.stock.now l.short first c.append_kinds.ensures last)
