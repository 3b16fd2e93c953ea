-- The line of an entry, which lines a stock text may have, and what the reader of a line answers.
use Rattle.std.specs.Prelude.{◌≡◌, ℕ, ◌≤◌, List, [], ◌∷◌, ◌++◌, Some, None, Ok, Err, codes, decimal, Option, Result}
use Rattle.std.specs.Str.Parse.{digits_value}
use Rattle.text.specs.declared.faults.LineFault.{LineFault}
use Rattle.text.specs.declared.faults.LineFault.TheVariants.{Malformed, OutOfRange}
use Rattle.text.specs.Fields.{tabbed}
use Rattle.text.specs.Numbers.{Canonical}
use Rattle.node.specs.Limits.{max_kind}
use Rattle.stock.specs.declared.line.Entry.{Entry}
use Rattle.stock.specs.declared.line.Fields.{Fields}

-- the largest count of a kind
abbrev pub max_count : ℕ
max_count = 65535

-- a line with these fields: the word, kind, count
abbrev pub row : List ℕ → List ℕ → List ℕ
row kind count = codes "stock" ++ (9 ∷ tabbed (kind ∷ count ∷ []))

-- the line of an entry, without its end
abbrev pub entry_line : Entry → List ℕ
entry_line e = row (decimal e.kind) (decimal e.count)

-- both numbers of an entry are in range
pub record InRange (e : Entry) : Type 0 where
  pub kind_low : 1 ≤ e.kind
  pub kind_high : e.kind ≤ max_kind
  pub count_high : e.count ≤ max_count

-- a line of the format, whatever its numbers
pub record WellFormed (line : List ℕ) : Type 0 where
  pub kind : List ℕ
  pub count : List ℕ
  pub is : line ≡ row kind count
  pub kind_ok : Canonical kind
  pub count_ok : Canonical count

-- the line of an entry in range
abbrev pub EntryLine : List ℕ → Type 0
EntryLine line = (e : Entry) × InRange e × (line ≡ entry_line e)

-- the numbers that a well-formed line writes
pub record Says (line : List ℕ) (w : Fields) : Type 0 where
  pub fields : WellFormed line
  pub kind : w.kind ≡ digits_value 10 fields.kind
  pub count : w.count ≡ digits_value 10 fields.count

-- the numbers of a line, or none where it is malformed
abbrev pub FieldsRead : List ℕ → Option Fields → Type 0
FieldsRead line (Some w) = Says line w
FieldsRead line None = WellFormed line → ⊥

-- the entry with a line's numbers, whatever their size
abbrev pub entry_of : Fields → Entry
entry_of w = record { kind = w.kind; count = w.count }

-- the entry, or none where a number is out of range
abbrev pub Ranged : Fields → Option Entry → Type 0
Ranged w (Some e) = (e ≡ entry_of w) × InRange e
Ranged w None = InRange (entry_of w) → ⊥

-- what the reader of a line answers: its entry; form is judged before range
abbrev pub LineRead : List ℕ → Result Entry LineFault → Type 0
LineRead line (Ok e) = (line ≡ entry_line e) × InRange e
LineRead line (Err Malformed) = WellFormed line → ⊥
LineRead line (Err OutOfRange) = WellFormed line × (EntryLine line → ⊥)
