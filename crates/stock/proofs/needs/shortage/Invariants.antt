use Rattle.std.proofs.Common.{ℕ, ◌<◌, ◌≤◌}
use Rattle.stock.specs.Needs.{needed}
use Rattle.stock.specs.Stocks.{in_stock}
use Rattle.stock.proofs.needs.shortage.Given as goal

abbrev pub invariant-loop-kind : goal.invariant-loop-kind
invariant-loop-kind l = (j : ℕ) → 1 ≤ j → j < l.kind → needed l.nodes j ≤ in_stock l.stock j
