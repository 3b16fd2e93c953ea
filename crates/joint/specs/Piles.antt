-- A layer over two halves: its numbers, its plan, and what making it gives.
use Rattle.std.specs.Prelude.{◌≡◌, ℕ, ◌+◌, ◌<◌, Bool, List, [], ◌∷◌, ◌++◌, length, nat_lt, if◌then◌else◌, Some, None, Option}
use Rattle.word.specs.declared.Letter.{Letter}
use Rattle.node.specs.declared.node.Layer.{Layer}
use Rattle.node.specs.declared.node.Node.{Node}
use Rattle.node.specs.declared.node.Node.TheVariants.{Layer as layer_node}
use Rattle.node.specs.Nodes.{over}
use Rattle.memory.specs.Meaning.{Meaning, Port, Cleared, shaped}
use Rattle.joint.specs.declared.sizes.Joint.{Joint}
use Rattle.joint.specs.declared.sizes.Size.{Size}
use Rattle.joint.specs.Fits.{Matches}

-- the numbers of a memory
pub record Measures {W : Type 0} (s : Size) (m : Meaning W) : Type 0 where
  pub reads : s.reads ≡ m.reads
  pub writes : s.writes ≡ m.writes
  pub depth : s.depth ≡ m.depth
  pub nodes : s.nodes ≡ length m.plan

-- the halves fit, and the numbers are theirs and those that the layer makes of them
pub record Agreed {W : Type 0} (l : Layer) (k : Letter) (j : Joint) (a b : Meaning W) : Type 0 where
  pub matches : Matches l k a b
  pub first : Measures j.first a
  pub second : Measures j.second b
  pub reads : j.own.reads ≡ (over l (shaped k a) (shaped k b)).reads
  pub writes : j.own.writes ≡ (over l (shaped k a) (shaped k b)).writes
  pub depth : j.own.depth ≡ (over l (shaped k a) (shaped k b)).depth
  pub nodes : j.own.nodes ≡ length a.plan + length b.plan + 1

-- numbers taken from two halves: void exactly where they do not fit
pub record Measured {W : Type 0} (l : Layer) (k : Letter) (a b : Meaning W) (j : Joint) : Type 0 where
  pub live : 0 < j.own.depth → Agreed l k j a b
  pub void : j.own.depth ≡ 0 → Matches l k a b → ⊥

-- numbers taken from two halves; none exactly where they do not fit
abbrev pub MeasuredIf : {W : Type 0} → Layer → Letter → Meaning W → Meaning W → Option Joint → Type 0
MeasuredIf l k a b (Some j) = (0 < j.own.depth) × Agreed l k j a b
MeasuredIf l k a b None = Matches l k a b → ⊥

-- the nodes of two halves and of the layer over them
abbrev pub pile : Layer → List Node → List Node → List Node
pile l p q = p ++ (q ++ (layer_node l ∷ []))

-- a layer's plan; a void layer has none
abbrev pub piled : Layer → Joint → List Node → List Node → List Node
piled l j p q = if nat_lt 0 j.own.depth then pile l p q else []

-- a layer with these words and ports over two halves
abbrev pub layer : {V W : Type 0} → Layer → Joint → Meaning V → Meaning V → (ℕ → W) → (ℕ → Bool) → (ℕ → Port W) → Meaning W
layer l j a b word used port = record {
  reads = j.own.reads;
  writes = j.own.writes;
  depth = j.own.depth;
  word = word;
  used = used;
  port = port;
  plan = piled l j a.plan b.plan;
}

-- a memory in order, with every word zero and every port free
abbrev pub Configured : {M W : Type 0} → (M → Type 0) → (M → Meaning W) → W → M → Type 0
Configured ordered meaning zero m = ordered m × Cleared zero (meaning m)

-- what making a layer over two halves gives: where they fit, the ports and the depth of the layer's row and the
-- plan of both; else a void memory
pub record Made {V W : Type 0} (l : Layer) (k : Letter) (a b : Meaning V) (m : Meaning W) : Type 0 where
  pub reads : Matches l k a b → m.reads ≡ (over l (shaped k a) (shaped k b)).reads
  pub writes : Matches l k a b → m.writes ≡ (over l (shaped k a) (shaped k b)).writes
  pub depth : Matches l k a b → m.depth ≡ (over l (shaped k a) (shaped k b)).depth
  pub plan : Matches l k a b → m.plan ≡ pile l a.plan b.plan
  pub void : (Matches l k a b → ⊥) → (m.reads ≡ 0) × (m.writes ≡ 0) × (m.depth ≡ 0) × (m.plan ≡ [])
