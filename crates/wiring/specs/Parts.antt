-- What the writer holds on its way, which no other crate sees: the memories that the nodes so far have made.
use Rattle.std.specs.Prelude.{◌≡◌, ℕ, ◌+◌, ◌-◌, ◌≤◌, List, [], ◌∷◌, ◌++◌, map, reverse, length, Ok, Err, Result}
use Rattle.std.specs.List.{flat_map}
use Rattle.arrayvec.specs.ArrayVec.{ArrayVec, array_vec_len}
use Rattle.node.specs.declared.faults.NodeFault.{NodeFault}
use Rattle.node.specs.declared.node.Layer.{Layer}
use Rattle.node.specs.declared.node.Node.{Node}
use Rattle.node.specs.declared.node.Node.TheVariants.{Macro as macro_node, Layer as layer_node}
use Rattle.node.specs.declared.shape.Shape.{Shape}
use Rattle.node.specs.Nodes.{InRange, Fits, shape_of, over}
use Rattle.node.specs.Plans.{Plan, NodeRefused}
use Rattle.page.specs.declared.cursor.Cursor.{Cursor}
use Rattle.page.specs.Cursors.{Grows}
use Rattle.wires.specs.declared.wire.Joint.{Joint}
use Rattle.wires.specs.declared.wire.Part.{Part}
use Rattle.wires.specs.Lines.{macro_line, layer_line, wire_line}
use Rattle.wires.specs.Ports.{joint_reads, joint_writes}
use Rattle.wires.specs.Wires.{upto}
use Rattle.wiring.specs.Netlists.{Wired, layer_lines, lines_text}

-- the parts on a stack, the top first
abbrev pub held : ArrayVec Part → List Part
held s = reverse s.items

-- the shapes of parts
abbrev pub shapes : List Part → List Shape
shapes ps = map (λ p. p.shape) ps

-- the two parts on top fit under a layer at the node n, and are replaced by what it makes
pub record Joins (old : ArrayVec Part) (l : Layer) (n : ℕ) (new : ArrayVec Part) (j : Joint) : Type 0 where
  pub rest : List Part
  pub halves : held old ≡ j.b ∷ (j.a ∷ rest)
  pub fits : Fits l j.a.shape j.b.shape
  pub layer : j.layer ≡ l
  pub own : j.own ≡ record { root = n; shape = over l j.a.shape j.b.shape }
  pub after : held new ≡ j.own ∷ rest
  pub count : array_vec_len new ≤ array_vec_len old

-- a layer joins the two parts on top, or is refused there
abbrev pub Joined : ArrayVec Part → Layer → ℕ → ArrayVec Part → Result Joint NodeFault → Type 0
Joined old l n new (Ok j) = Joins old l n new j
Joined old l n new (Err f) = NodeRefused (shapes (held old)) (layer_node l) f

-- the lines of a layer with its halves
abbrev pub joint_lines : Joint → List (List ℕ)
joint_lines j =
    layer_line j.layer j.own.root j.a.root j.b.root j.own.shape
    ∷ map wire_line (flat_map (joint_reads j) (upto j.own.shape.reads) ++ flat_map (joint_writes j) (upto j.own.shape.writes))

-- lines are added to whatever text is before a cursor
pub record Continues (old : Cursor) (ls : List (List ℕ)) (new : Cursor) : Type 0 where
  pub grows : Grows old (lines_text ls) new

-- what the node at the number n makes of the parts before it, and its lines
abbrev pub Taken : ℕ → List Part → Node → List Part → List (List ℕ) → Type 0
Taken n ps (macro_node m) ps' ls = InRange m × (ps' ≡ record { root = n; shape = shape_of m } ∷ ps) × (ls ≡ macro_line n m ∷ [])
Taken n ps (layer_node l) ps' ls =
    (a : Part)
    × (b : Part)
    × (rest : List Part)
    × (ps ≡ b ∷ (a ∷ rest))
    × Fits l a.shape b.shape
    × (ps' ≡ record { root = n; shape = over l a.shape b.shape } ∷ rest)
    × (ls ≡ layer_lines l n a.root b.root a.shape b.shape)

-- a node is taken and its lines are added
pub record Takes (old : ArrayVec Part) (n : ℕ) (node : Node) (new : ArrayVec Part) (start end : Cursor) : Type 0 where
  pub lines : List (List ℕ)
  pub taken : Taken n (held old) node (held new) lines
  pub written : Continues start lines end
  pub count : array_vec_len new ≤ array_vec_len old + 1

-- a node is taken, or refused
abbrev pub Added : ArrayVec Part → ℕ → Node → ArrayVec Part → Cursor → Cursor → Result Unit NodeFault → Type 0
Added old n node new start end (Ok _) = Takes old n node new start end
Added old n node new start end (Err f) = NodeRefused (shapes (held old)) node f

-- the nodes of several memories, one after another, with the parts, the last memory's first, and the lines
pub data Parts : List Node → List Part → List (List ℕ) → Type 0 where
  none : Parts [] [] []
  then : {ns p : List Node} {ps : List Part} {s : Shape} {ls ms : List (List ℕ)} → Parts ns ps ls → Wired (length ns) p s ms → Parts (ns ++ p) (record { root = length ns + length p - 1; shape = s } ∷ ps) (ls ++ ms)

-- nodes that are no plan
abbrev pub NoPlan : List Node → Type 0
NoPlan ns = (s : Shape) → Plan ns s → ⊥

-- the lines of all nodes are added, or a node is refused
abbrev pub Lined : List Node → Cursor → Cursor → Result Unit NodeFault → Type 0
Lined ns old new (Ok _) = (ps : List Part) × (ls : List (List ℕ)) × Parts ns ps ls × Continues old ls new
Lined ns old new (Err f) = NoPlan ns
