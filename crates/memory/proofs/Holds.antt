-- Whether an address is held.
use Rattle.std.proofs.Common.{◌≡◌, ℕ, zero, suc, ◌<◌, ◌≤◌, ◌⊎◌, Bool, true, false, length, slice_index_or, Some, None, Option, ◌≢◌, sym, refl, ap, ◌∙◌, subst, inl, inr, arith}
use Rattle.std.proofs.lemmas.Bool.{cases_eq}
use Rattle.std.proofs.lemmas.List.FromFn.{length-range_with_len, get_or-range_with_len}
use Rattle.std.specs.Bool.{MatchBool}
use Rattle.std.specs.List.{AllWithin, HoldsAt, range_with_len}
use Rattle.memory.specs.Meaning.{Meaning, Port, free, holding, address}
use Rattle.memory.specs.Calls.{HeldAt, Idle, Waits}

-- a port holds the address, with a word
abbrev pub Holds : {W : Type 0} → Meaning W → ℕ → Type 0
Holds {W} m y = (q : ℕ) × ((w : W) × ((q < m.writes) × (m.port q ≡ holding y w)))

-- a port is free or holds something
pub port_cases : {W : Type 0} (o : Port W) → (o ≡ free) ⊎ ((x : ℕ) × ((w : W) × (o ≡ holding x w)))
port_cases free = inl refl
port_cases (holding x w) = inr (x, (w, refl))

-- as far as the first n ports go
abbrev Known : {W : Type 0} → Meaning W → ℕ → ℕ → Type 0
Known m y n = Holds m y ⊎ ((c : ℕ) → c < n → address (m.port c) ≡ Some y → ⊥)

known_more : {W : Type 0} (m : Meaning W) (y n : ℕ) → n < m.writes → Known m y n → Known m y (suc n)
known_more m y n h (inl k) = inl k
known_more m y n h (inr i) = elim (port_cases (m.port n)) [
  | inl e ↦ inr (λ c hc f. elim (cases_eq c n) [
    | inl same ↦ (let g : address (m.port c) ≡ None = ap (λ (j : ℕ). address (m.port j)) same ∙ ap address e in let z : ◌≡◌ {A = ℕ} 0 1 = cc in omega arith)
    | inr ne ↦ i c (omega arith) f
  ])
  | inr k ↦ elim (cases_eq k.0 y) [
    | inl same ↦ inl (n, (k.1.0, (h, k.1.1 ∙ ap (λ (x : ℕ). holding x k.1.0) same)))
    | inr ne ↦ inr (λ c hc f. elim (cases_eq c n) [
      | inl same ↦ (let g : address (m.port c) ≡ Some k.0 = ap (λ (j : ℕ). address (m.port j)) same ∙ ap address k.1.1 in absurd (ne (cc)))
      | inr other ↦ i c (omega arith) f
    ])
  ]
]

known : {W : Type 0} (m : Meaning W) (y n : ℕ) → n ≤ m.writes → Known m y n
known m y zero h = inr (λ c hc e. omega arith)
known m y (suc n) h = known_more m y n (omega arith) (known m y n (omega arith))

-- what port x tells is the address, or is not
abbrev pub Told : {W : Type 0} → Meaning W → ℕ → ℕ → Type 0
Told m y x = (h : Option ℕ) × HeldAt m x h × (h ≡ Some y)

abbrev pub Untold : {W : Type 0} → Meaning W → ℕ → ℕ → Type 0
Untold m y x = (h : Option ℕ) × HeldAt m x h × (h ≢ Some y)

place_of : (n k : ℕ) → k < n → slice_index_or (range_with_len 0 n) k 0 ≡ k
place_of n k lt = omega (arith, get_or-range_with_len 0 n k 0 lt)

-- where some port of all tells it, it waits, and else not
pub asked : {W : Type 0} (m : Meaning W) (y n : ℕ) (b : Bool) → n ≡ m.writes → MatchBool b ((k : ℕ) × (k < length (range_with_len 0 n)) × HoldsAt (Told m y) (range_with_len 0 n) k) (AllWithin (Untold m y) (range_with_len 0 n) 0 (length (range_with_len 0 n))) → Waits m y b
asked m y n true e h =
    let lt : h.0 < n = rw (← length-range_with_len 0 n) h.1 in
    let told : Told m y h.0 = subst (Told m y) (place_of n h.0 lt) (h.2 0) in
    (h.0, omega arith, sym (told.1.inside (omega arith)) ∙ told.2)
asked m y n false e h = λ q lt f.
    let few : q < n = omega arith in
    let untold : Untold m y q = subst (Untold m y) (place_of n q few) (h q 0 (omega arith) (rw (length-range_with_len 0 n) few)) in
    untold.2 (untold.1.inside lt ∙ f)

-- some port holds the address, or none does
pub holds_or_idle : {W : Type 0} (m : Meaning W) (y : ℕ) → Holds m y ⊎ Idle m y
holds_or_idle m y = known m y m.writes (omega arith)
