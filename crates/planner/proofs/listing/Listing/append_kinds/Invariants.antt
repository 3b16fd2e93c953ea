use Rattle.std.proofs.Common.{◌-◌}
use Rattle.page.specs.Cursors.{Grows}
use Rattle.planner.specs.Listings.{kinds_text}
use Rattle.planner.proofs.listing.Listing.append_kinds.Given as goal

abbrev pub invariant-loop-kind : goal.invariant-loop-kind
invariant-loop-kind l = Grows l.initial.cursor (kinds_text l.self.nodes.now l.self.stock.now (l.kind - 1)) l.cursor
