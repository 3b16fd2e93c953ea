-- What the readers of a line and of its parts answer.
use Rattle.std.specs.Prelude.{◌≡◌, ℕ, List, ◌∷◌, Some, None, Ok, Err, Option, Result, ◌≢◌}
use Rattle.std.specs.Borrow.{Bor}
use Rattle.std.specs.Str.Parse.{digits_value}
use Rattle.word.specs.declared.Letter.{Letter}
use Rattle.text.specs.declared.faults.LineFault.{LineFault}
use Rattle.text.specs.declared.faults.LineFault.TheVariants.{Malformed, OutOfRange}
use Rattle.node.specs.declared.node.Layer.{Layer}
use Rattle.node.specs.declared.node.Macro.{Macro}
use Rattle.node.specs.declared.node.Node.{Node}
use Rattle.node.specs.Nodes.{InRange}
use Rattle.node_line.specs.declared.Fields.{Fields}
use Rattle.node_line.specs.Lines.{letter_byte, layer_name, line_of, NodeInRange, Row, WellFormed, NodeLine}

-- the layer with a name, or none
abbrev pub LayerRead : List ℕ → Option Layer → Type 0
LayerRead bs (Some l) = bs ≡ layer_name l
LayerRead bs None = (l : Layer) → bs ≢ layer_name l

-- the letter with a byte, or none
abbrev pub LetterRead : ℕ → Option Letter → Type 0
LetterRead b (Some x) = b ≡ letter_byte x
LetterRead b None = (x : Letter) → b ≢ letter_byte x

-- a letter and a TAB in front, and what follows; or they are not there
abbrev pub LetterField : List ℕ → Option (Letter × Bor (List ℕ)) → Type 0
LetterField bs (Some p) = bs ≡ letter_byte p.0 ∷ 9 ∷ p.1.now
LetterField bs None = (x : Letter) (rest : List ℕ) → bs ≢ letter_byte x ∷ 9 ∷ rest

-- the numbers that well-formed fields write
pub record Says (bs : List ℕ) (w : Fields) : Type 0 where
  pub fields : Row bs
  pub kind : w.kind ≡ digits_value 10 fields.kind
  pub letter : w.letter ≡ fields.letter
  pub reads : w.reads ≡ digits_value 10 fields.reads
  pub writes : w.writes ≡ digits_value 10 fields.writes
  pub depth : w.depth ≡ digits_value 10 fields.depth

-- the fields of a macro, or none where they are malformed
abbrev pub FieldsRead : List ℕ → Option Fields → Type 0
FieldsRead bs (Some w) = Says bs w
FieldsRead bs None = Row bs → ⊥

-- the macro with the fields' numbers, whatever their size
abbrev pub macro_of : Fields → Macro
macro_of w = record { kind = w.kind; letter = w.letter; reads = w.reads; writes = w.writes; depth = w.depth }

-- the macro, or none where a number is out of range
abbrev pub Ranged : Fields → Option Macro → Type 0
Ranged w (Some m) = (m ≡ macro_of w) × InRange m
Ranged w None = InRange (macro_of w) → ⊥

-- what the reader of a line answers: its node; form is judged before range
abbrev pub LineRead : List ℕ → Result Node LineFault → Type 0
LineRead line (Ok n) = (line ≡ line_of n) × NodeInRange n
LineRead line (Err Malformed) = WellFormed line → ⊥
LineRead line (Err OutOfRange) = WellFormed line × (NodeLine line → ⊥)
