use Rattle.std.proofs.Common.{◌∙◌}
use Rattle.page.proofs.Cursors.{grows_by}
use Rattle.planner.proofs.listing.Listing.append_kind.Goals as goal

pub returns-in-Some : goal.returns-in-Some
returns-in-Some c = grows_by _ _ (c.as_bytes.ensures ∙ c.in-Some.ensures) c.append.ensures
