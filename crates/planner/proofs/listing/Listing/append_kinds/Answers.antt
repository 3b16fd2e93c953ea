use Rattle.std.proofs.Common.{◌≡◌, ◌-◌, ap, arith}
use Rattle.page.proofs.Cursors.{grows_then, grows_is}
use Rattle.planner.specs.Listings.{kinds_text}
use Rattle.planner.proofs.Laying.{kinds_more}
use Rattle.planner.proofs.listing.Listing.append_kinds.Goals as goal

pub loop-kind-preserved : goal.loop-kind-preserved
loop-kind-preserved c =
    grows_is (kinds_more c.args.self.now.nodes.now c.args.self.now.stock.now c.loop-kind.kind (omega arith))
    (grows_then c.loop-kind.invariant c.append_kind.ensures)

pub returns : goal.returns
returns c =
    let all : c.loop-kind.kind - 1 ≡ 15 = omega arith in
    grows_is (ap (kinds_text c.args.self.now.nodes.now c.args.self.now.stock.now) all) c.loop-kind.invariant
