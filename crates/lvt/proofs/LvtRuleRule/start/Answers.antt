use Rattle.std.proofs.Common.{replicate}
use Rattle.node.specs.Limits.{max_marks}
use Rattle.lvt.specs.declared.Half.TheVariants.{First}
use Rattle.lvt.proofs.Halves.{clear_layer}
use Rattle.lvt.proofs.LvtRuleRule.start.Goals as goal

pub returns-clause-clear : goal.returns-clause-clear
returns-clause-clear g c = λ j a b. clear_layer g.A.Word.Word.kind g.A.Word.Word.nought j (replicate max_marks First) a b
