-- Lines and fields: the parts of a list of bytes between separators.
use Rattle.std.specs.Prelude.{◌≡◌, ℕ, List, [], ◌∷◌, ◌++◌, Some, None, Option}
use Rattle.std.specs.Borrow.{Bor}
use Rattle.std.specs.Str.Iter.{LacksByte}
use Rattle.std.specs.Str.Parse.{digits_value}
use Rattle.text.specs.Numbers.{Canonical}

-- bs is cut at its first separator, or has none
abbrev pub Cut : ℕ → List ℕ → Option (Bor (List ℕ) × Bor (List ℕ)) → Type 0
Cut separator bs (Some p) = (bs ≡ p.0.now ++ (separator ∷ p.1.now)) × LacksByte separator p.0.now
Cut separator bs None = LacksByte separator bs

-- fields with one TAB (byte 9) between each two
abbrev pub tabbed : List (List ℕ) → List ℕ
tabbed [] = []
tabbed (f ∷ []) = f
tabbed (f ∷ (g ∷ fs)) = f ++ (9 ∷ tabbed (g ∷ fs))

-- bs begins with a number and a TAB: the number's value, and what follows; or it does not begin so
abbrev pub NumberField : List ℕ → Option (ℕ × Bor (List ℕ)) → Type 0
NumberField bs (Some p) = (f : List ℕ) × (bs ≡ f ++ (9 ∷ p.1.now)) × Canonical f × (p.0 ≡ digits_value 10 f)
NumberField bs None = (f rest : List ℕ) → bs ≡ f ++ (9 ∷ rest) → Canonical f → ⊥
