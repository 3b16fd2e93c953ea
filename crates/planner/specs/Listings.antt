-- The listing of a plan against a stock, and what the planner answers.
use Rattle.std.specs.Prelude.{◌≡◌, ℕ, zero, suc, ◌<◌, ◌≤◌, cond, List, [], ◌∷◌, ◌++◌, length, drop, Some, None, Ok, Err, codes, decimal, Option, Result, nat_lt}
use Rattle.word.specs.declared.Letter.{Letter}
use Rattle.text.specs.declared.line.LineBuffer.{LineBuffer}
use Rattle.text.specs.Fields.{tabbed}
use Rattle.text.specs.Lines.{line_text}
use Rattle.node.specs.declared.node.Node.{Node}
use Rattle.node.specs.declared.verdict.Top.{Top}
use Rattle.node.specs.Limits.{max_kind}
use Rattle.node_line.specs.Lines.{letter_byte}
use Rattle.stock.specs.declared.stock.Stock.{Stock}
use Rattle.stock.specs.Needs.{Shortage, needed}
use Rattle.stock.specs.Stocks.{in_stock}
use Rattle.page.specs.declared.faults.RoomFault.{RoomFault}
use Rattle.page.specs.declared.faults.RoomFault.TheVariants.{NoRoom}
use Rattle.planner.specs.declared.listing.Planned.{Planned}

-- the first line: the letter, the read ports, the write ports, the depth and the macros
abbrev pub top_row : Letter → ℕ → ℕ → ℕ → ℕ → List ℕ
top_row letter reads writes depth macros = codes "top" ++ (9 ∷ tabbed ((letter_byte letter ∷ []) ∷ decimal reads ∷ decimal writes ∷ decimal depth ∷ decimal macros ∷ []))

-- the first line of a plan with this top
abbrev pub top_line : Top → List ℕ
top_line t = top_row t.shape.letter t.shape.reads t.shape.writes t.shape.depth t.macros

-- the line of a kind: how many are needed, and how many are in stock
abbrev pub kind_row : ℕ → ℕ → ℕ → List ℕ
kind_row kind wanted there = codes "kind" ++ (9 ∷ tabbed (decimal kind ∷ decimal wanted ∷ decimal there ∷ []))

-- the line of a kind that is needed, with its end (byte 10); nothing of a kind that is not
abbrev pub kind_part : List Node → Stock → ℕ → List ℕ
kind_part ns s kind = cond (nat_lt 0 (needed ns kind)) (kind_row kind (needed ns kind) (in_stock s kind) ++ (10 ∷ [])) []

-- the line of a kind that is needed, with its end, is made; or none of a kind that is not
abbrev pub KindLine : List Node → Stock → ℕ → Option LineBuffer → Type 0
KindLine ns s kind (Some line) = line_text line ≡ kind_part ns s kind
KindLine ns s kind None = kind_part ns s kind ≡ []

-- the lines of the needed kinds from 1 on
abbrev pub kinds_text : List Node → Stock → ℕ → List ℕ
kinds_text ns s zero = []
kinds_text ns s (suc kind) = kinds_text ns s kind ++ kind_part ns s (suc kind)

-- the last line where a kind is short: the kind, and how many are missing
abbrev pub short_row : ℕ → ℕ → List ℕ
short_row kind missing = codes "short" ++ (9 ∷ tabbed (decimal kind ∷ decimal missing ∷ []))

-- the last line
abbrev pub verdict_line : Option (ℕ × ℕ) → List ℕ
verdict_line (Some p) = short_row p.0 p.1
verdict_line None = codes "enough"

-- the whole text
abbrev pub listing : List Node → Top → Stock → Option (ℕ × ℕ) → List ℕ
listing ns t s short = top_line t ++ (10 ∷ []) ++ kinds_text ns s max_kind ++ verdict_line short ++ (10 ∷ [])

-- what planning nodes with their top against a stock answers: what is short, and the length of the listing, which is
-- at the front of the buffer; or that it has no room, and the buffer is as it was. The empty plan has an empty
-- listing and is enough
abbrev pub Listed : List Node → Option Top → Stock → List ℕ → List ℕ → Result Planned RoomFault → Type 0
Listed ns (Some t) s old new (Ok p) =
    Shortage ns s p.short
    × (p.size ≡ length (listing ns t s p.short))
    × (p.size ≤ length old)
    × (new ≡ listing ns t s p.short ++ drop p.size old)
Listed ns (Some t) s old new (Err NoRoom) =
    (short : Option (ℕ × ℕ)) × Shortage ns s short × (length old < length (listing ns t s short)) × (new ≡ old)
Listed ns None s old new (Ok p) = (p.short ≡ None) × (p.size ≡ 0) × (new ≡ old)
Listed ns None s old new (Err NoRoom) = ⊥

-- no other answer to this plan, this stock and this buffer would do
abbrev pub ListedSole : List Node → Option Top → Stock → List ℕ → List ℕ → Result Planned RoomFault → Type 0
ListedSole ns top s old new r = (new' : List ℕ) (r' : Result Planned RoomFault) → Listed ns top s old new' r' → (new' ≡ new) × (r' ≡ r)
