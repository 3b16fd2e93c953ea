use Rattle.kinds.specs.Apart.{bits64_same}
use Rattle.width.specs.Words.{wide}
use Rattle.width.proofs.words.joined.Goals as goal

pub returns : goal.returns
unfolding wide
returns c = bits64_same _ _ (cc)
