use Rattle.std.proofs.Common.{rules}
use Rattle.width.proofs.Parts.{wide_zero}
use Rattle.width.proofs.WidthRuleRule.start.Goals as goal

pub returns-clause-clear : goal.returns-clause-clear
returns-clause-clear g c = let zero = wide_zero in search rules
