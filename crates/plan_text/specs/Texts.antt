-- The text of nodes, and what a reader of any text answers.
use Rattle.std.specs.Prelude.{◌≡◌, ℕ, ◌+◌, ◌<◌, ◌≤◌, ◌⊎◌, List, [], ◌∷◌, ◌++◌, length, drop, Ok, Err, Result}
use Rattle.std.specs.List.{flat_map, AllByRecursion}
use Rattle.text.specs.Faults.{max_bytes}
use Rattle.text.specs.Texts.{Begins, LineFails}
use Rattle.node.specs.declared.node.Node.{Node}
use Rattle.node.specs.Limits.{max_nodes}
use Rattle.node_line.specs.Lines.{line_of, NodeInRange, NodeLine}
use Rattle.node_line.specs.Reading.{LineRead}
use Rattle.plan_text.specs.declared.faults.ReadFault.{ReadFault}
use Rattle.plan_text.specs.declared.faults.ReadFault.TheVariants as reading

-- the lines of the nodes, each with its end (byte 10)
abbrev pub text_of : List Node → List ℕ
text_of ns = flat_map (λ n. line_of n ++ (10 ∷ [])) ns

-- the nodes ns are read off the front of a text, rest is left, and the buffer went from old to new
pub record Front (text : List ℕ) (old new ns : List Node) (rest : List ℕ) : Type 0 where
  pub split : text ≡ text_of ns ++ rest
  pub ranged : AllByRecursion NodeInRange ns
  pub few : length ns ≤ max_nodes
  pub fits : length ns ≤ length old
  pub buffer : new ≡ ns ++ drop (length ns) old

-- the first line of rest is that of a node
abbrev pub NodeComes : List ℕ → Type 0
NodeComes rest = (line : List ℕ) × Begins rest line × NodeLine line

-- why reading stops where room is the length of the buffer, the nodes ns are read and rest is left
abbrev pub Stops : ℕ → List Node → List ℕ → ReadFault → Type 0
Stops room ns rest reading.TooLong = ⊥
Stops room ns rest (reading.Line line f) = (line ≡ length ns + 1) × LineFails LineRead rest f
Stops room ns rest (reading.TooManyNodes line) = (line ≡ length ns + 1) × NodeComes rest × (length ns ≡ max_nodes)
Stops room ns rest (reading.NoPlace line) = (line ≡ length ns + 1) × NodeComes rest × (length ns < max_nodes) × (length ns ≡ room)

-- what reading a text into a buffer answers: the number of nodes, or the first fault
abbrev pub TextRead : List ℕ → List Node → List Node → Result ℕ ReadFault → Type 0
TextRead text old new (Ok count) = (length text ≤ max_bytes) × ((ns : List Node) × (count ≡ length ns) × Front text old new ns [])
TextRead text old new (Err f) =
    ((max_bytes < length text) × (new ≡ old) × (f ≡ reading.TooLong))
    ⊎ ((length text ≤ max_bytes) × ((ns : List Node) × (rest : List ℕ) × Front text old new ns rest × Stops (length old) ns rest f))

-- no other answer to this text and this buffer would do
abbrev pub ReadSole : List ℕ → List Node → List Node → Result ℕ ReadFault → Type 0
ReadSole text old new r = (new' : List Node) (r' : Result ℕ ReadFault) → TextRead text old new' r' → (new' ≡ new) × (r' ≡ r)
