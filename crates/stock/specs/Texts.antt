-- The text of entries, and what a reader of any text answers.
use Rattle.std.specs.Prelude.{◌≡◌, ℕ, ◌+◌, ◌<◌, ◌≤◌, List, [], ◌∷◌, ◌++◌, length, Some, Ok, Err, Result}
use Rattle.std.specs.List.{flat_map, AllByRecursion}
use Rattle.text.specs.Faults.{max_bytes}
use Rattle.text.specs.Texts.{Begins, LineFails}
use Rattle.stock.specs.declared.faults.StockFault.{StockFault}
use Rattle.stock.specs.declared.faults.StockFault.TheVariants as stock
use Rattle.stock.specs.declared.line.Entry.{Entry}
use Rattle.stock.specs.declared.stock.Stock.{Stock}
use Rattle.stock.specs.Lines.{InRange, LineRead, entry_line}
use Rattle.stock.specs.Stocks.{Distinct, counted, in_stock, listed}

-- the lines of the entries, each with its end (byte 10)
abbrev pub stock_text : List Entry → List ℕ
stock_text es = flat_map (λ e. entry_line e ++ (10 ∷ [])) es

-- the entries es are read off the front of a text that is not too long, and rest is left
pub record Front (text : List ℕ) (es : List Entry) (rest : List ℕ) : Type 0 where
  pub short : length text ≤ max_bytes
  pub split : text ≡ stock_text es ++ rest
  pub ranged : AllByRecursion InRange es
  pub distinct : Distinct es

-- the first line of rest is that of this entry, in range
abbrev pub EntryComes : List ℕ → Entry → Type 0
EntryComes rest e = (line : List ℕ) × Begins rest line × LineRead line (Ok e)

-- the first line of rest is that of an entry whose kind is among those of es
abbrev pub KindAgain : List Entry → List ℕ → Type 0
KindAgain es rest = (e : Entry) × EntryComes rest e × ((count : ℕ) × (listed es e.kind ≡ Some count))

-- what reading a text answers: a stock of what its entries count, of which there is one at least, or
-- the first fault
abbrev pub StockRead : List ℕ → Result Stock StockFault → Type 0
StockRead text (Ok s) = (es : List Entry) × Front text es [] × (0 < length es) × ((kind : ℕ) → in_stock s kind ≡ counted es kind)
StockRead text (Err stock.TooLong) = max_bytes < length text
StockRead text (Err (stock.Line line f)) = (es : List Entry) × (rest : List ℕ) × Front text es rest × (line ≡ length es + 1) × LineFails LineRead rest f
StockRead text (Err (stock.Twice line)) = (es : List Entry) × (rest : List ℕ) × Front text es rest × (line ≡ length es + 1) × KindAgain es rest
StockRead text (Err stock.Empty) = text ≡ []

-- answers that say the same: the same fault, or stocks with the same count of every kind
abbrev pub Agree : Result Stock StockFault → Result Stock StockFault → Type 0
Agree (Ok s) (Ok t) = (kind : ℕ) → in_stock s kind ≡ in_stock t kind
Agree (Ok s) (Err g) = ⊥
Agree (Err f) (Ok t) = ⊥
Agree (Err f) (Err g) = f ≡ g

-- no other answer to this text would do
abbrev pub ReadSole : List ℕ → Result Stock StockFault → Type 0
ReadSole text r = (r' : Result Stock StockFault) → StockRead text r' → Agree r' r
