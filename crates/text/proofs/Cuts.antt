-- Fields and lines in a list of bytes.
use Rattle.std.proofs.Common.{◌≡◌, ℕ, zero, suc, ◌+◌, ◌/◌, ◌%◌, Bool, true, false, not, ◌&&◌, eqb, ltb, List, [], ◌∷◌, ◌++◌, length, get_or, decimal, sym, refl, ap, ◌∙◌, add-one, arith, length-append}
use Rattle.std.specs.Fmt.{digits, digits_onto, digit_glyph}
use Rattle.std.specs.List.{AllByRecursion}
use Rattle.std.proofs.ByRecursion.{All-append, All-get_or}
use Rattle.std.proofs.lemmas.Bool.{and_parts, cond_both, not-true, eqb-false}
use Rattle.std.specs.Str.Iter.{LacksByte}
use Rattle.std.proofs.lemmas.List.{get_or_at}
use Rattle.std.proofs.lemmas.Str.Parse.{not_in_digits}
use Rattle.text.specs.Numbers.{Canonical}
use Rattle.text.proofs.Numerals.{own}

-- a list is cut at the first s in one way
pub same_cut : (s : ℕ) (f g r t : List ℕ) → f ++ (s ∷ r) ≡ g ++ (s ∷ t) → LacksByte s f → LacksByte s g → (f ≡ g) × (r ≡ t)
same_cut s [] [] r t e lf lg = (refl, cc)
same_cut s [] (y ∷ g) r t e lf lg = absurd (lg 0 (omega arith) (cc))
same_cut s (x ∷ f) [] r t e lf lg = absurd (lf 0 (omega arith) (cc))
same_cut s (x ∷ f) (y ∷ g) r t e lf lg =
    let e' : f ++ (s ∷ r) ≡ g ++ (s ∷ t) = cc in
    let h : x ≡ y = cc in
    let p = same_cut s f g r t e' (λ k l q. lf (k + 1) (omega arith) (rw add-one q)) (λ k l q. lg (k + 1) (omega arith) (rw add-one q)) in
    ((λ j. h j ∷ p.0 j), p.1)

-- and not where there is none
pub no_cut : (s : ℕ) (bs f r : List ℕ) → bs ≡ f ++ (s ∷ r) → LacksByte s bs → ⊥
no_cut s bs f r e l = l (length f) (omega (arith, ap length e ∙ length-append f (s ∷ r))) (ap (λ xs. get_or xs (length f) 0) e ∙ get_or_at f s r 0 (length f) refl)

-- a number holds no TAB
pub no_tab : {f : List ℕ} → Canonical f → LacksByte 9 f
no_tab {f} c = not_in_digits own f 9 c.digits (λ h. omega arith)

-- a number and a TAB are taken off in one way
pub number_off : {bs f r g t : List ℕ} → bs ≡ f ++ (9 ∷ r) → Canonical f → bs ≡ g ++ (9 ∷ t) → Canonical g → (f ≡ g) × (r ≡ t)
number_off p c q d = same_cut 9 _ _ _ _ (sym p ∙ q) (no_tab c) (no_tab d)

-- no byte is the separator
abbrev pub Free : ℕ → List ℕ → Type 0
Free s bs = AllByRecursion (λ b. b ≡ s → ⊥) bs

abbrev free : ℕ → List ℕ → Bool
free s [] = true
free s (b ∷ bs) = not (eqb b s) && free s bs

-- by a test that computes
pub free_by_test : (s : ℕ) (bs : List ℕ) → free s bs ≡ true → Free s bs
free_by_test s [] e = tt
free_by_test s (b ∷ bs) e = let p = and_parts _ _ e in (eqb-false b s (not-true _ p.0), free_by_test s bs p.1)

pub lacks_from_free : (s : ℕ) (bs : List ℕ) → Free s bs → LacksByte s bs
lacks_from_free s bs h k l e = All-get_or (λ b. b ≡ s → ⊥) bs k 0 l h e

pub lacks_by_test : (s : ℕ) (bs : List ℕ) → free s bs ≡ true → LacksByte s bs
lacks_by_test s bs e = lacks_from_free s bs (free_by_test s bs e)

-- no digit is an end of line
glyph_free : (d : ℕ) → digit_glyph false d ≡ 10 → ⊥
glyph_free d = cond_both (ltb d 10) (48 + d) (87 + d) (λ (b : ℕ). b ≡ 10 → ⊥) (λ _ e. omega arith) (λ _ e. omega arith)

digits_free : (k n : ℕ) (acc : List ℕ) → Free 10 acc → Free 10 (digits_onto k 10 false n acc)
digits_free zero n acc h = h
digits_free (suc k) n acc h =
    cond_both (eqb (n / 10) 0) (digit_glyph false (n % 10) ∷ acc) (digits_onto k 10 false (n / 10) (digit_glyph false (n % 10) ∷ acc)) (Free 10)
    (λ _. (glyph_free (n % 10), h))
    (λ _. digits_free k (n / 10) (digit_glyph false (n % 10) ∷ acc) (glyph_free (n % 10), h))

-- so no number holds one
pub free_decimal : (n : ℕ) → Free 10 (decimal n)
unfolding digits
free_decimal n = digits_free 64 n [] tt

-- nor do fields with a TAB between them
pub free_then : (a b : List ℕ) → Free 10 a → Free 10 b → Free 10 (a ++ (9 ∷ b))
free_then a b h k = All-append (λ c. c ≡ 10 → ⊥) a (9 ∷ b) h ((λ e. omega arith), k)
