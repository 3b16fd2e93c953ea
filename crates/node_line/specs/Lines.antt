-- The line of a node, and which lines a plan text may have.
use Rattle.std.specs.Prelude.{◌≡◌, ℕ, ◌⊎◌, List, [], ◌∷◌, ◌++◌, codes, decimal}
use Rattle.word.specs.declared.Letter.{Letter}
use Rattle.word.specs.declared.Letter.TheVariants.{H, B, S, O}
use Rattle.text.specs.Fields.{tabbed}
use Rattle.text.specs.Numbers.{Canonical}
use Rattle.node.specs.declared.node.Layer.{Layer}
use Rattle.node.specs.declared.node.Layer.TheVariants.{Replicate, Lvt, Xor, Depth, Width}
use Rattle.node.specs.declared.node.Node.{Node}
use Rattle.node.specs.declared.node.Node.TheVariants as node
use Rattle.node.specs.Nodes.{InRange}

-- the byte of a letter
abbrev pub letter_byte : Letter → ℕ
letter_byte H = 72
letter_byte B = 66
letter_byte S = 83
letter_byte O = 79

-- the name of a layer
abbrev pub layer_name : Layer → List ℕ
layer_name Replicate = codes "replicate"
layer_name Lvt = codes "lvt"
layer_name Xor = codes "xor"
layer_name Depth = codes "depth"
layer_name Width = codes "width"

-- the fields of a macro after its word: kind, letter, reads, writes, depth
abbrev pub row : List ℕ → Letter → List ℕ → List ℕ → List ℕ → List ℕ
row kind letter reads writes depth = tabbed (kind ∷ (letter_byte letter ∷ []) ∷ reads ∷ writes ∷ depth ∷ [])

-- a macro's line with these fields
abbrev pub macro_line : List ℕ → List ℕ
macro_line fields = codes "macro" ++ (9 ∷ fields)

-- the line of a node, without its end
abbrev pub line_of : Node → List ℕ
line_of (node.Macro m) = macro_line (row (decimal m.kind) m.letter (decimal m.reads) (decimal m.writes) (decimal m.depth))
line_of (node.Layer l) = layer_name l

-- a node whose numbers, if it has any, are in range
abbrev pub NodeInRange : Node → Type 0
NodeInRange (node.Macro m) = InRange m
NodeInRange (node.Layer l) = Unit {0}

-- fields of a macro, each well formed
pub record Row (fields : List ℕ) : Type 0 where
  pub kind : List ℕ
  pub letter : Letter
  pub reads : List ℕ
  pub writes : List ℕ
  pub depth : List ℕ
  pub is : fields ≡ row kind letter reads writes depth
  pub kind_ok : Canonical kind
  pub reads_ok : Canonical reads
  pub writes_ok : Canonical writes
  pub depth_ok : Canonical depth

-- a line of the format, whatever its numbers
abbrev pub WellFormed : List ℕ → Type 0
WellFormed line = ((l : Layer) × (line ≡ layer_name l)) ⊎ ((fields : List ℕ) × (line ≡ macro_line fields) × Row fields)

-- the line of a node in range
abbrev pub NodeLine : List ℕ → Type 0
NodeLine line = (n : Node) × NodeInRange n × (line ≡ line_of n)
