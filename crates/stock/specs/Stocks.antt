-- What a stock holds, and what entries list.
use Rattle.std.specs.Prelude.{◌≡◌, ℕ, ◌+◌, cond, List, [], ◌∷◌, replicate, Some, None, Ok, Err, Option, Result, ◌==◌, nat_le, slice_index_or, slice_set}
use Rattle.node.specs.Limits.{max_kind}
use Rattle.stock.specs.declared.faults.StockFault.{StockFault}
use Rattle.stock.specs.declared.faults.StockFault.TheVariants as stock
use Rattle.stock.specs.declared.line.Entry.{Entry}
use Rattle.stock.specs.declared.stock.Stock.{Stock}

-- what is not listed is not in stock
abbrev pub or_zero : Option ℕ → ℕ
or_zero (Some count) = count
or_zero None = 0

-- the count that a stock lists for a kind, or none
abbrev pub listed_in : Stock → ℕ → Option ℕ
listed_in s kind = slice_index_or s.counts kind None

-- the number of macros of a kind in a stock; there are none beyond the largest kind
abbrev pub in_stock : Stock → ℕ → ℕ
in_stock s kind = cond (nat_le kind max_kind) (or_zero (listed_in s kind)) 0

-- the count of the first entry with a kind, or none where no entry has it
abbrev pub listed : List Entry → ℕ → Option ℕ
listed [] kind = None
listed (e ∷ es) kind = cond (e.kind == kind) (Some e.count) (listed es kind)

-- the count of the entry with a kind, or 0
abbrev pub counted : List Entry → ℕ → ℕ
counted es kind = or_zero (listed es kind)

-- no two entries have one kind
abbrev pub Distinct : List Entry → Type 0
Distinct [] = Unit {0}
Distinct (e ∷ es) = (listed es e.kind ≡ None) × Distinct es

-- a table in which no kind is listed
abbrev pub blank : List (Option ℕ)
blank = replicate (max_kind + 1) None

-- the entry of a line is added to a table: its kind was not listed, and no other place changes; or
-- its kind is listed already
abbrev pub Added : Stock → Entry → ℕ → Result Stock StockFault → Type 0
Added old e line (Ok new) = (listed_in old e.kind ≡ None) × (new.counts ≡ slice_set old.counts e.kind (Some e.count))
Added old e line (Err f) = (f ≡ stock.Twice line) × ((count : ℕ) × (listed_in old e.kind ≡ Some count))
