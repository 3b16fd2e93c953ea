-- How many macros of a kind are among nodes, and the one shortage.
use Rattle.std.proofs.Common.{◌≡◌, ℕ, ◌-◌, List, [], ◌∷◌, length, filter, Some, None, Option, sym, refl, ap, ◌∙◌, inl, inr, arith}
use Rattle.std.proofs.lemmas.Bool.Decides.{nat_tests}
use Rattle.std.proofs.lemmas.Bool.{cases_order}
use Rattle.node.specs.declared.node.Node.{Node}
use Rattle.stock.specs.declared.stock.Stock.{Stock}
use Rattle.stock.specs.Needs.{Shortage, needed, of_kind}
use Rattle.stock.specs.Stocks.{in_stock}

-- the macros of a kind are the nodes of that kind
pub length_of_kind : (ns : List Node) (kind : ℕ) → length (filter (of_kind kind) ns) ≡ needed ns kind
length_of_kind [] kind = refl
length_of_kind (n ∷ ns) kind = grind (arith, nat_tests, length_of_kind ns kind)

-- where a stock is short of something, no other answer would do
short_sole : (ns : List Node) (s : Stock) (p : ℕ × ℕ) (q : Option (ℕ × ℕ)) → Shortage ns s (Some p) → Shortage ns s q → q ≡ Some p
short_sole ns s p None (low, high, short, missing, below) enough = absurd (omega (arith, enough p.0 low high))
short_sole ns s p (Some q) (low, high, short, missing, below) (low', high', short', missing', below') =
    elim (cases_order p.0 q.0) [
      | inl same ↦ ap Some (λ i. (sym same i, (missing' ∙ ap (λ (k : ℕ). needed ns k - in_stock s k) (sym same) ∙ sym missing) i))
      | inr (inl less) ↦ absurd (omega (arith, below' p.0 low less))
      | inr (inr more) ↦ absurd (omega (arith, below q.0 low' more))
    ]

-- there is one answer to what a stock is short of
pub shortage_sole : (ns : List Node) (s : Stock) (r q : Option (ℕ × ℕ)) → Shortage ns s r → Shortage ns s q → q ≡ r
shortage_sole ns s (Some p) q h k = short_sole ns s p q h k
shortage_sole ns s None None h k = refl
shortage_sole ns s None (Some q) h k = sym (short_sole ns s q None k h)
