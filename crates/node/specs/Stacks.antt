-- The stack of the check, which no other crate sees.
use Rattle.std.specs.Prelude.{◌≡◌, ℕ, ◌+◌, ◌≤◌, List, ◌∷◌, reverse, length, Ok, Err, Result}
use Rattle.arrayvec.specs.ArrayVec.{ArrayVec, array_vec_len}
use Rattle.node.specs.declared.faults.CheckFault.{CheckFault}
use Rattle.node.specs.declared.faults.CheckFault.TheVariants as fault
use Rattle.node.specs.declared.faults.NodeFault.{NodeFault}
use Rattle.node.specs.declared.node.Node.{Node}
use Rattle.node.specs.declared.node.Node.TheVariants.{Macro as macro_node, Layer as layer_node}
use Rattle.node.specs.declared.shape.Shape.{Shape}
use Rattle.node.specs.Nodes.{InRange, Fits, shape_of, over}
use Rattle.node.specs.Plans.{Plans, NodeRefused, FirstRefused}

-- the shapes on a stack, the top first
abbrev pub held : ArrayVec Shape → List Shape
held s = reverse s.items

-- what a node makes of the memories before it: a macro is one more, a layer takes the last two
abbrev pub Taken : List Shape → Node → List Shape → Type 0
Taken st (macro_node m) st' = InRange m × (st' ≡ shape_of m ∷ st)
Taken st (layer_node l) st' = (a : Shape) × (b : Shape) × (rest : List Shape) × (st ≡ b ∷ (a ∷ rest)) × Fits l a b × (st' ≡ over l a b ∷ rest)

-- a node is taken, or refused
abbrev pub Added : ArrayVec Shape → Node → ArrayVec Shape → Result Unit NodeFault → Type 0
Added old n new (Ok _) = Taken (held old) n (held new) × (array_vec_len new ≤ array_vec_len old + 1)
Added old n new (Err f) = NodeRefused (held old) n f

-- the stack that nodes leave, which counts no more than they are, or the first that is refused
abbrev pub Stacked : List Node → Result (ArrayVec Shape) CheckFault → Type 0
Stacked ns (Ok stack) = Plans ns (held stack) × (array_vec_len stack ≤ length ns)
Stacked ns (Err f) = (place : ℕ) × (why : NodeFault) × (f ≡ fault.Node place why) × FirstRefused ns place why
