use Rattle.wiring.proofs.Reckoning.{macros_counted}
use Rattle.wiring.proofs.Sole.{netlist_sole}
use Rattle.wiring.proofs.drawing.netlist.Goals as goal

pub returns : goal.returns
returns c =
    let plan = c.args.plan in
    let says = c.written.ensures in
    record {
      says = says;
      macros = macros_counted plan.nodes.now plan.top _ _ _ plan.sound says;
      sole = netlist_sole plan.nodes.now plan.top _ _ _ says;
    }
