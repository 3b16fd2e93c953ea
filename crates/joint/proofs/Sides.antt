-- Which half has a port.
use Rattle.std.proofs.Common.{◌≡◌, ℕ, ◌+◌, ◌-◌, ◌<◌, ltb, ap, ◌∙◌, inl, inr, arith, le-ltb, lt-ltb}
use Rattle.std.proofs.lemmas.Bool.{cases_lt, cond-true, cond-false}
use Rattle.joint.specs.Beside.{beside}

pub beside_first : {X : Type 0} (n : ℕ) (f g : ℕ → X) (q : ℕ) → q < n → beside n f g q ≡ f q
beside_first n f g q h = cond-true (ltb q n) (f q) (g (q - n)) (lt-ltb q n h)

pub beside_second : {X : Type 0} (n : ℕ) (f g : ℕ → X) (q j : ℕ) → q ≡ n + j → beside n f g q ≡ g j
beside_second n f g q j e =
    let d : q - n ≡ j = omega arith in
    cond-false (ltb q n) (f q) (g (q - n)) (le-ltb q n (omega arith)) ∙ ap g d

-- a port of a layer is one of the first half or one of the second
pub data Side {X : Type 0} (n k : ℕ) (f g : ℕ → X) (q : ℕ) : Type 0 where
  of_first : q < n → beside n f g q ≡ f q → Side n k f g q
  of_second : (j : ℕ) → j < k → q ≡ n + j → beside n f g q ≡ g j → Side n k f g q

pub side : {X : Type 0} (n k : ℕ) (f g : ℕ → X) (q : ℕ) → q < n + k → Side n k f g q
side n k f g q h =
    elim (cases_lt q n) [
      | inl l ↦ of_first l (beside_first n f g q l)
      | inr m ↦ of_second (q - n) (omega arith) (omega arith) (beside_second n f g q (q - n) (omega arith))
    ]
