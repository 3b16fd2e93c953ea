-- The marks that the ports passed so far have set.
use Rattle.std.proofs.Common.{◌≡◌, ℕ, ◌+◌, ◌<◌, ◌≤◌, ◌≢◌, List, length, set, Some, None, sym, inl, inr, arith, get_or-set_other, get_or-set_same}
use Rattle.std.proofs.lemmas.Bool.{cases_eq}
use Rattle.memory.specs.Meaning.{Meaning, address, Tidy}
use Rattle.lvt.specs.declared.Half.{Half}
use Rattle.lvt.specs.declared.Half.TheVariants.{First}
use Rattle.lvt.specs.Lvt.{marked}

-- the ports below n have set their marks, and no other mark has changed
abbrev pub Passed : {W : Type 0} → Meaning W → ℕ → Half → List Half → List Half → Type 0
Passed m n h before after =
    ((q x : ℕ) → q < n → address (m.port q) ≡ Some x → marked after x ≡ h)
    × ((x : ℕ) → ((q : ℕ) → q < n → address (m.port q) ≡ Some x → ⊥) → marked after x ≡ marked before x)

-- port n holds an address, whose mark is set
pub passed_some : {W : Type 0} (m : Meaning W) (n x : ℕ) (h : Half) (before after after' : List Half) → Passed m n h before after → Some x ≡ address (m.port n) → x < length after → after' ≡ set after x h → Passed m (n + 1) h before after'
passed_some m n x h before after after' p e l s =
    let here = get_or-set_same after x h First l in (
      (λ q y hq f. elim (cases_eq y x) [
        | inl k ↦ cc
        | inr ne ↦ (let other = get_or-set_other after x y h First ne in elim (cases_eq q n) [
          | inl k ↦ absurd (ne (cc))
          | inr nq ↦ (let lt : q < n = omega arith in let o = p.0 q y lt f in cc)
        ])
      ]),
      (λ y idle. let ne : y ≢ x = λ k. idle n (omega arith) (cc) in
          let other = get_or-set_other after x y h First ne in
          let o = p.1 y (λ q hq f. idle q (omega arith) f) in cc),
    )

-- port n holds no address past the depth
pub passed_past : {W : Type 0} (m : Meaning W) (n x : ℕ) (h : Half) (before after : List Half) → Tidy m → n < m.writes → Some x ≡ address (m.port n) → m.depth ≤ x → Passed m (n + 1) h before after
passed_past m n x h before after t hn e past = let below = t.within n x hn (sym e) in absurd (omega arith)

-- port n holds none
pub passed_none : {W : Type 0} (m : Meaning W) (n : ℕ) (h : Half) (before after after' : List Half) → Passed m n h before after → None ≡ address (m.port n) → after' ≡ after → Passed m (n + 1) h before after'
passed_none m n h before after after' p e s = (
  (λ q y hq f. elim (cases_eq q n) [
    | inl k ↦ (let z : ◌≡◌ {A = ℕ} 0 1 = cc in absurd (omega arith))
    | inr nq ↦ (let lt : q < n = omega arith in let o = p.0 q y lt f in cc)
  ]),
  (λ y idle. let o = p.1 y (λ q hq f. idle q (omega arith) f) in cc),
)
