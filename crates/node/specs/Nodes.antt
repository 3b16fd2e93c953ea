-- What a node stands for: a macro in range has a shape, and a layer makes a shape of two that fit.
use Rattle.std.specs.Prelude.{◌≡◌, ◌+◌, ◌-◌, ◌<◌, ◌≤◌, min, Bool, true, false, Some, None, Option}
use Rattle.word.specs.declared.Letter.TheVariants.{H, B}
use Rattle.word.specs.Letters.{summed}
use Rattle.node.specs.declared.node.Layer.{Layer}
use Rattle.node.specs.declared.node.Layer.TheVariants.{Replicate, Lvt, Xor, Depth, Width}
use Rattle.node.specs.declared.node.Macro.{Macro}
use Rattle.node.specs.declared.node.Node.{Node}
use Rattle.node.specs.declared.node.Node.TheVariants.{Macro as macro_node, Layer as layer_node}
use Rattle.node.specs.declared.shape.Shape.{Shape}
use Rattle.node.specs.Limits.{max_kind, max_ports, max_depth, max_marks}

-- every number of a macro is in its range
pub record InRange (m : Macro) : Type 0 where
  pub kind_low : 1 ≤ m.kind
  pub kind_high : m.kind ≤ max_kind
  pub reads_low : 1 ≤ m.reads
  pub reads_high : m.reads ≤ max_ports
  pub writes_low : 1 ≤ m.writes
  pub writes_high : m.writes ≤ max_ports
  pub depth_low : 1 ≤ m.depth
  pub depth_high : m.depth ≤ max_depth

-- the memory that a macro is
abbrev pub shape_of : Macro → Shape
shape_of m = record { letter = m.letter; reads = m.reads; writes = m.writes; depth = m.depth }

-- whether a node is a macro
abbrev pub is_macro : Node → Bool
is_macro (macro_node m) = true
is_macro (layer_node l) = false

-- when a layer can stand over the halves a and b
abbrev pub Fits : Layer → Shape → Shape → Type 0
Fits Replicate a b = (a.letter ≡ b.letter) × (a.depth ≡ b.depth) × (a.writes ≡ b.writes) × (a.reads + b.reads ≤ max_ports)
Fits Lvt a b = (a.letter ≡ b.letter) × (a.depth ≡ b.depth) × (a.depth ≤ max_marks) × (a.reads ≡ b.reads) × (a.writes + b.writes ≤ max_ports)
Fits Xor a b = (a.letter ≡ b.letter) × (summed a.letter ≡ true) × (a.depth ≡ b.depth) × (b.writes < a.reads) × (a.writes < b.reads) × (a.writes + b.writes ≤ max_ports)
Fits Depth a b = (a.letter ≡ b.letter) × (a.reads ≡ b.reads) × (a.writes ≡ b.writes) × (a.depth + b.depth ≤ max_depth)
Fits Width a b = (a.letter ≡ H) × (b.letter ≡ H) × (a.depth ≡ b.depth) × (a.reads ≡ b.reads) × (a.writes ≡ b.writes)

-- the memory that a layer makes of halves that fit
abbrev pub over : Layer → Shape → Shape → Shape
over Replicate a b = record { letter = a.letter; reads = a.reads + b.reads; writes = a.writes; depth = a.depth }
over Lvt a b = record { letter = a.letter; reads = a.reads; writes = a.writes + b.writes; depth = a.depth }
over Xor a b = record { letter = a.letter; reads = min (a.reads - b.writes) (b.reads - a.writes); writes = a.writes + b.writes; depth = a.depth }
over Depth a b = record { letter = a.letter; reads = a.reads; writes = a.writes; depth = a.depth + b.depth }
over Width a b = record { letter = B; reads = a.reads; writes = a.writes; depth = a.depth }

-- what a layer answers to the halves a and b
abbrev pub Fitted : Layer → Shape → Shape → Option Shape → Type 0
Fitted l a b (Some s) = Fits l a b × (s ≡ over l a b)
Fitted l a b None = Fits l a b → ⊥
