-- What a plan needs, and what a stock is short of.
use Rattle.std.specs.Prelude.{◌≡◌, ℕ, ◌+◌, ◌-◌, ◌<◌, ◌≤◌, Bool, false, cond, List, [], ◌∷◌, Some, None, Option, ◌==◌}
use Rattle.node.specs.declared.node.Node.{Node}
use Rattle.node.specs.declared.node.Node.TheVariants as node
use Rattle.node.specs.Limits.{max_kind}
use Rattle.stock.specs.declared.stock.Stock.{Stock}
use Rattle.stock.specs.Stocks.{in_stock}

-- whether a node is a macro of a kind
abbrev pub of_kind : ℕ → Node → Bool
of_kind kind (node.Macro m) = m.kind == kind
of_kind kind (node.Layer l) = false

-- the number of macro nodes of a kind
abbrev pub needed : List Node → ℕ → ℕ
needed [] kind = 0
needed (n ∷ ns) kind = cond (of_kind kind n) 1 0 + needed ns kind

-- what a stock is short of for a plan: the lowest kind of which it has less than the plan needs, with
-- the number that is missing; or none where it has enough of every kind
abbrev pub Shortage : List Node → Stock → Option (ℕ × ℕ) → Type 0
Shortage ns s (Some p) =
    (1 ≤ p.0)
    × (p.0 ≤ max_kind)
    × (in_stock s p.0 < needed ns p.0)
    × (p.1 ≡ needed ns p.0 - in_stock s p.0)
    × ((j : ℕ) → 1 ≤ j → j < p.0 → needed ns j ≤ in_stock s j)
Shortage ns s None = (j : ℕ) → 1 ≤ j → j ≤ max_kind → needed ns j ≤ in_stock s j
