use Rattle.std.proofs.Common.{sym, ◌∙◌}
use Rattle.page.proofs.Cursors.{grows_none, grows_by, grows_then, grows_is, lays}
use Rattle.plan_text.proofs.Lines.{text_all, text_more}
use Rattle.plan_text.proofs.writer.PlanTextText.lay.Goals as goal

pub loop-node-init : goal.loop-node-init
loop-node-init c = grows_none

pub loop-node-preserved : goal.loop-node-preserved
loop-node-preserved c =
    let nodes = c.args.self.now.nodes.now in
    grows_is (sym (text_more nodes c.loop-node.node-index _ c.loop-node-test.true))
    (grows_then c.loop-node.invariant (grows_by c.loop-node.cursor c.append.new.self (c.as_bytes.ensures ∙ c.render.ensures) c.append.ensures))

pub returns : goal.returns
returns c = lays (text_all c.args.self.now.nodes.now c.loop-node.node-index c.loop-node-test.false) c.loop-node.invariant
