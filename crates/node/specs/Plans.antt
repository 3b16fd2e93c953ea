-- Which lists of nodes are plans, and what the check answers to any list.
use Rattle.std.specs.Prelude.{◌≡◌, ℕ, ◌+◌, ◌<◌, ◌≤◌, cond, List, [], ◌∷◌, ◌++◌, length, take, Some, None, Ok, Err, Option, Result}
use Rattle.node.specs.declared.verdict.Top.{Top}
use Rattle.node.specs.declared.faults.CheckFault.{CheckFault}
use Rattle.node.specs.declared.faults.CheckFault.TheVariants as fault
use Rattle.node.specs.declared.faults.NodeFault.{NodeFault}
use Rattle.node.specs.declared.faults.NodeFault.TheVariants.{OutOfRange, TooFewMemories, Unfit}
use Rattle.node.specs.declared.node.Layer.{Layer}
use Rattle.node.specs.declared.node.Macro.{Macro}
use Rattle.node.specs.declared.node.Node.{Node}
use Rattle.node.specs.declared.node.Node.TheVariants.{Macro as macro_node, Layer as layer_node}
use Rattle.node.specs.declared.shape.Shape.{Shape}
use Rattle.node.specs.Limits.{max_nodes}
use Rattle.node.specs.Nodes.{InRange, Fits, shape_of, over, is_macro}

-- the nodes of one memory, with its shape: a macro in range alone, or the nodes of two halves that
-- fit, the first half's first, and then their layer
pub data Plan : List Node → Shape → Type 0 where
  single : {m : Macro} → InRange m → Plan (macro_node m ∷ []) (shape_of m)
  layered : (l : Layer) {p q : List Node} {a b : Shape} → Plan p a → Plan q b → Fits l a b → Plan (p ++ (q ++ (layer_node l ∷ []))) (over l a b)

-- the nodes of several memories, one after another, with their shapes, the last memory's first
pub data Plans : List Node → List Shape → Type 0 where
  none : Plans [] []
  then : {ns p : List Node} {st : List Shape} {s : Shape} → Plans ns st → Plan p s → Plans (ns ++ p) (s ∷ st)

-- the number of macro nodes
abbrev pub macro_count : List Node → ℕ
macro_count [] = 0
macro_count (n ∷ ns) = cond (is_macro n) 1 0 + macro_count ns

-- what passes the check: a plan of one memory, of at most as many nodes as a plan may have
abbrev pub Passes : List Node → Shape → Type 0
Passes ns s = (length ns ≤ max_nodes) × Plan ns s

-- why a node is refused after memories of the shapes st, the last one's first
abbrev pub NodeRefused : List Shape → Node → NodeFault → Type 0
NodeRefused st n OutOfRange = (m : Macro) × (n ≡ macro_node m) × (InRange m → ⊥)
NodeRefused st n TooFewMemories = (l : Layer) × (n ≡ layer_node l) × (length st < 2)
NodeRefused st n Unfit = (l : Layer) × (a : Shape) × (b : Shape) × (rest : List Shape) × (n ≡ layer_node l) × (st ≡ b ∷ (a ∷ rest)) × (Fits l a b → ⊥)

-- the node at a place is the first that is refused
pub record FirstRefused (ns : List Node) (place : ℕ) (f : NodeFault) : Type 0 where
  pub before : List Node
  pub node : Node
  pub after : List Node
  pub shapes : List Shape
  pub split : ns ≡ before ++ (node ∷ after)
  pub here : place ≡ length before + 1
  pub taken : Plans before shapes
  pub refused : NodeRefused shapes node f

-- what the check answers: the top's shape and the number of macros, or the first fault
abbrev pub Checked : List Node → Result Top CheckFault → Type 0
Checked ns (Ok t) = Passes ns t.shape × (t.macros ≡ macro_count ns)
Checked ns (Err fault.NoNodes) = ns ≡ []
Checked ns (Err fault.TooManyNodes) = max_nodes < length ns
Checked ns (Err (fault.Node place f)) = (length ns ≤ max_nodes) × FirstRefused ns place f
Checked ns (Err (fault.ManyMemories place)) = (length ns ≤ max_nodes) × (place ≡ length ns + 1) × ((st : List Shape) × Plans ns st × (1 < length st))

-- no other answer to these nodes would do
abbrev pub Sole : List Node → Result Top CheckFault → Type 0
Sole ns r = (q : Result Top CheckFault) → Checked ns q → q ≡ r

-- the shape of the memory that ends with a node, counted from 0, or none
abbrev pub ShapeAt : List Node → ℕ → Option Shape → Type 0
ShapeAt ns last (Some s) = (last < length ns) × (last < max_nodes) × ((st : List Shape) × Plans (take (last + 1) ns) (s ∷ st))
ShapeAt ns last None = last < length ns → last < max_nodes → (st : List Shape) → Plans (take (last + 1) ns) st → ⊥
