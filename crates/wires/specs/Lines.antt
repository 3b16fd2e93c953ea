-- The lines of a netlist, without their ends.
use Rattle.std.specs.Prelude.{ℕ, List, [], ◌∷◌, ◌++◌, codes, decimal}
use Rattle.text.specs.Fields.{tabbed}
use Rattle.node.specs.declared.node.Layer.{Layer}
use Rattle.node.specs.declared.node.Macro.{Macro}
use Rattle.node.specs.declared.shape.Shape.{Shape}
use Rattle.node.specs.Nodes.{shape_of}
use Rattle.node_line.specs.Lines.{layer_name, letter_byte}
use Rattle.wires.specs.declared.wire.Mark.{Mark}
use Rattle.wires.specs.declared.wire.Mark.TheVariants.{Read, Write, Recovery}
use Rattle.wires.specs.declared.wire.Wire.{Wire}

-- the byte of a mark: r, w or v
abbrev pub mark_byte : Mark → ℕ
mark_byte Read = 114
mark_byte Write = 119
mark_byte Recovery = 118

-- the last fields of a memory's line: its read ports, its write ports and its depth
abbrev pub shape_fields : Shape → List (List ℕ)
shape_fields s = decimal s.reads ∷ decimal s.writes ∷ decimal s.depth ∷ []

-- the line of the macro m at the node n
abbrev pub macro_line : ℕ → Macro → List ℕ
macro_line n m = tabbed (codes "macro" ∷ decimal n ∷ decimal m.kind ∷ (letter_byte m.letter ∷ []) ∷ shape_fields (shape_of m))

-- the line of a layer at the node n, over halves that end with the nodes a and b; s is its own shape
abbrev pub layer_line : Layer → ℕ → ℕ → ℕ → Shape → List ℕ
layer_line l n a b s = tabbed (layer_name l ∷ decimal n ∷ decimal a ∷ decimal b ∷ shape_fields s)

-- the line of a wire
abbrev pub wire_line : Wire → List ℕ
wire_line w = tabbed ((mark_byte w.mark ∷ []) ∷ decimal w.node ∷ decimal w.port ∷ decimal w.half ∷ decimal w.inner ∷ [])

-- the last line: the last node, and the number of macros
abbrev pub top_line : ℕ → ℕ → List ℕ
top_line last macros = tabbed (codes "top" ∷ decimal last ∷ decimal macros ∷ [])

-- the end of a memory's line, from the TAB before its last fields on
abbrev pub shape_end : Shape → List ℕ
shape_end s = 9 ∷ (tabbed (shape_fields s) ++ (10 ∷ []))
