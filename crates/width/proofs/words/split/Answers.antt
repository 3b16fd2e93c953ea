use mathlib.Core.Path.{◌∙◌}
use Rattle.width.specs.Words.{wide}
use Rattle.width.proofs.Parts.{wide_halves}
use Rattle.width.proofs.words.split.Goals as goal

pub returns : goal.returns
returns c = (λ i. wide (c.low.ensures i) (c.high.ensures i)) ∙ wide_halves c.args.word
