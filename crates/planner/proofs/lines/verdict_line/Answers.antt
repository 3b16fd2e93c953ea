use Rattle.std.proofs.Common.{ℕ, [], ◌∷◌, ◌++◌, Option, sym, ap, ◌∙◌, lit≤}
use Rattle.text.proofs.Lines.{adds_first, adds_whole}
use Rattle.planner.specs.Listings.{verdict_line}
use Rattle.planner.proofs.lines.verdict_line.Goals as goal

pub returns-in-None : goal.returns-in-None
returns-in-None c =
    adds_whole (adds_first c.new.ensures c.word.ensures) (lit≤ tt)
    ∙ ap (λ (short : Option (ℕ × ℕ)). verdict_line short ++ (10 ∷ [])) (sym c.in-None.is)
