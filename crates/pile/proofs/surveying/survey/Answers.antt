use Rattle.pile.proofs.Tops.{listed_own, drawn_own}
use Rattle.pile.proofs.surveying.survey.Goals as goal

pub returns : goal.returns
returns g c =
    let order = c.run_both-tried.ensures.one.order in
    let memory = c.run_both-tried.new.first in
    let m = g.M.Memory.meaning memory in
    let planned = g.met.M.Memory.planned memory order in
    let own = c.copy_plan-count.ensures.plan order in
    record {
      runs = c.run_both-tried.ensures;
      listing = listed_own g.M.Word.Word.kind m _ c.args.stock.now c.args.listing.now c.plan_nodes-planned.new.out c.plan_nodes-planned.result planned own c.plan_nodes-planned.ensures;
      netlist = drawn_own g.M.Word.Word.kind m _ c.args.drawing.now c.draw_nodes-drawn.new.out c.draw_nodes-drawn.result planned own c.draw_nodes-drawn.ensures;
    }
