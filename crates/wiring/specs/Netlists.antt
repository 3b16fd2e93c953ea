-- The netlist of a plan, and what its writer answers.
use Rattle.std.specs.Prelude.{◌≡◌, ℕ, ◌+◌, ◌-◌, ◌<◌, ◌≤◌, List, [], ◌∷◌, ◌++◌, map, length, drop, Some, None, Ok, Err, Option, Result}
use Rattle.std.specs.List.{flat_map}
use Rattle.node.specs.declared.node.Layer.{Layer}
use Rattle.node.specs.declared.node.Macro.{Macro}
use Rattle.node.specs.declared.node.Node.{Node}
use Rattle.node.specs.declared.node.Node.TheVariants.{Macro as macro_node, Layer as layer_node}
use Rattle.node.specs.declared.shape.Shape.{Shape}
use Rattle.node.specs.declared.verdict.Top.{Top}
use Rattle.node.specs.Nodes.{InRange, Fits, shape_of, over}
use Rattle.wires.specs.Lines.{macro_line, layer_line, wire_line, top_line}
use Rattle.wires.specs.Wires.{wires_of}
use Rattle.page.specs.declared.faults.RoomFault.{RoomFault}
use Rattle.page.specs.declared.faults.RoomFault.TheVariants.{NoRoom}

-- the lines of a layer at the node n, over halves of the shapes sa and sb that end with the nodes a and b: its own,
-- then those of its wires
abbrev pub layer_lines : Layer → ℕ → ℕ → ℕ → Shape → Shape → List (List ℕ)
layer_lines l n a b sa sb = layer_line l n a b (over l sa sb) ∷ map wire_line (wires_of l n a b sa sb)

-- the nodes of one memory, numbered from `start` on, with its shape and its lines: a macro alone, or the nodes of two
-- halves that fit, and then their layer. A half ends with the last of its nodes
pub data Wired : ℕ → List Node → Shape → List (List ℕ) → Type 0 where
  single : {start : ℕ} {m : Macro} → InRange m → Wired start (macro_node m ∷ []) (shape_of m) (macro_line start m ∷ [])
  layered : {start : ℕ} (l : Layer) {p q : List Node} {a b : Shape} {ls ms : List (List ℕ)} → Wired start p a ls → Wired (start + length p) q b ms → Fits l a b → Wired start (p ++ (q ++ (layer_node l ∷ []))) (over l a b) (ls ++ (ms ++ layer_lines l (start + length p + length q) (start + length p - 1) (start + length p + length q - 1) a b))

-- lines, each with its end (byte 10)
abbrev pub lines_text : List (List ℕ) → List ℕ
lines_text ls = flat_map (λ l. l ++ (10 ∷ [])) ls

-- the lines of the nodes, then the last line
abbrev pub netlist_text : List (List ℕ) → ℕ → ℕ → List ℕ
netlist_text ls last macros = lines_text ls ++ (top_line last macros ++ (10 ∷ []))

-- bytes are the netlist of nodes with their top
abbrev pub NetlistText : List Node → Top → List ℕ → Type 0
NetlistText ns t bytes =
    (ls : List (List ℕ)) × Wired 0 ns t.shape ls × (bytes ≡ netlist_text ls (length ns - 1) t.macros)

-- what writing the netlist of nodes with their top into a buffer answers: the length of the text, which is at the front
-- of the buffer; or that it has no room, and the buffer is as it was. The empty plan has no lines
abbrev pub NetlistWritten : List Node → Option Top → List ℕ → List ℕ → Result ℕ RoomFault → Type 0
NetlistWritten ns (Some t) old new (Ok n) =
    (ls : List (List ℕ))
    × Wired 0 ns t.shape ls
    × (n ≡ length (netlist_text ls (length ns - 1) t.macros))
    × (n ≤ length old)
    × (new ≡ netlist_text ls (length ns - 1) t.macros ++ drop n old)
NetlistWritten ns (Some t) old new (Err NoRoom) =
    (ls : List (List ℕ)) × Wired 0 ns t.shape ls × (length old < length (netlist_text ls (length ns - 1) t.macros)) × (new ≡ old)
NetlistWritten ns None old new (Ok n) = (n ≡ 0) × (new ≡ old)
NetlistWritten ns None old new (Err NoRoom) = ⊥

-- no other answer to these nodes and this buffer would do
abbrev pub NetlistSole : List Node → Option Top → List ℕ → List ℕ → Result ℕ RoomFault → Type 0
NetlistSole ns top old new r = (new' : List ℕ) (r' : Result ℕ RoomFault) → NetlistWritten ns top old new' r' → (new' ≡ new) × (r' ≡ r)
