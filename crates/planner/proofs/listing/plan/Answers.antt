use Rattle.planner.proofs.Laying.{listed_sole}
use Rattle.planner.proofs.listing.plan.Goals as goal

pub returns : goal.returns
returns c =
    let plan = c.args.plan in
    let says = c.told.ensures in
    record { says = says; sole = listed_sole plan.nodes.now plan.top c.args.stock.now _ _ _ says }
