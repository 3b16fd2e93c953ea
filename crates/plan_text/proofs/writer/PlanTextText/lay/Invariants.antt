use Rattle.std.proofs.Common.{take}
use Rattle.page.specs.Cursors.{Grows}
use Rattle.plan_text.specs.Texts.{text_of}
use Rattle.plan_text.proofs.writer.PlanTextText.lay.Given as goal

abbrev pub invariant-loop-node : goal.invariant-loop-node
invariant-loop-node l = Grows l.initial.cursor (text_of (take l.node-index l.self.nodes.now)) l.cursor
