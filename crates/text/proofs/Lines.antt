-- A line buffer keeps the first bytes of what is added to it.
use Rattle.std.proofs.Common.{◌≡◌, ℕ, zero, suc, ◌+◌, ◌<◌, ◌≤◌, List, [], ◌∷◌, ◌++◌, length, take, set, sym, refl, ap, ◌∙◌, subst, append_assoc, append-nil, arith, length-take}
use Rattle.std.proofs.lemmas.List.{length-take-le, length_push, take_all, take-append-le, take_more_set}
use Rattle.text.specs.Lines.{capped, Adds}

-- what the front of a list keeps, the front of a longer one keeps
cap_front : (n : ℕ) (xs ys : List ℕ) → take n (take n xs ++ ys) ≡ take n (xs ++ ys)
cap_front zero xs ys = refl
cap_front (suc n) [] ys = refl
cap_front (suc n) (x ∷ xs) ys = ap (λ (r : List ℕ). x ∷ r) (cap_front n xs ys)

-- one addition after another
pub adds_then : {old mid new xs ys : List ℕ} → Adds old xs mid → Adds mid ys new → Adds old (xs ++ ys) new
unfolding capped
adds_then {old} {mid} {new} {xs} {ys} e f = record {
  is = f.is ∙ ap (λ (m : List ℕ). capped (m ++ ys)) e.is ∙ cap_front 64 (old ++ xs) ys ∙ ap capped (append_assoc old xs ys);
}

-- the first addition, to an empty line
pub adds_first : {empty xs new : List ℕ} → empty ≡ [] → Adds empty xs new → Adds [] xs new
adds_first {empty} {xs} {new} e f = subst (λ (bs : List ℕ). Adds bs xs new) e f

-- the same bytes in other words
pub adds_is : {old new xs ys : List ℕ} → xs ≡ ys → Adds old xs new → Adds old ys new
adds_is {old} {new} e f = subst (λ (bs : List ℕ). Adds old bs new) e f

-- a line to which no more is added than it keeps
pub adds_whole : {xs new : List ℕ} → Adds [] xs new → length xs ≤ 64 → new ≡ xs
unfolding capped
adds_whole {xs} e short = e.is ∙ take_all 64 xs short

-- a line with nothing added to it
pub adds_none : (bytes : List ℕ) (len : ℕ) → length bytes ≡ 64 → Adds (take len bytes) [] (take len bytes)
unfolding capped
adds_none bytes len full = record {
  is = sym (ap capped (append-nil (take len bytes)) ∙ take_all 64 (take len bytes) (omega (arith, length-take len bytes)));
}

-- a byte is stored behind the others
pub byte_kept : (bytes : List ℕ) (len byte : ℕ) → length bytes ≡ 64 → len < 64 → Adds (take len bytes) (byte ∷ []) (take (len + 1) (set bytes len byte))
unfolding capped
byte_kept bytes len byte full room = record {
  is =
      take_more_set bytes len byte (omega arith)
      ∙ sym (take_all 64 (take len bytes ++ (byte ∷ [])) (omega (arith, length_push (take len bytes) byte, length-take-le len bytes (omega arith))));
}

-- or the line is full
pub byte_lost : (bytes : List ℕ) (len byte : ℕ) → length bytes ≡ 64 → 64 ≤ len → Adds (take len bytes) (byte ∷ []) (take len bytes)
unfolding capped
byte_lost bytes len byte full over =
    let e = take_all len bytes (omega arith) in
    record {
      is = e ∙ sym (ap (λ (bs : List ℕ). capped (bs ++ (byte ∷ []))) e ∙ take-append-le 64 bytes (byte ∷ []) (omega arith) ∙ take_all 64 bytes (omega arith));
    }
