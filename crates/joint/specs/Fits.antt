-- When two memories fit under a layer.
use Rattle.std.specs.Prelude.{◌≡◌, ℕ, ◌+◌, ◌<◌, length, Some, None, Option}
use Rattle.word.specs.declared.Letter.{Letter}
use Rattle.node.specs.declared.node.Layer.{Layer}
use Rattle.node.specs.Limits.{max_nodes}
use Rattle.node.specs.Nodes.{over}
use Rattle.node.specs.Nodes as nodes
use Rattle.memory.specs.Meaning.{Meaning, shaped}
use Rattle.joint.specs.declared.verdict.Fit.{Fit}
use Rattle.joint.specs.declared.verdict.Fit.TheVariants.{Fits, Unfit}
use Rattle.joint.specs.declared.joining.Half.{Half}
use Rattle.joint.specs.declared.sizes.Size.{Size}

-- the number of each answer
abbrev pub fit_number : Fit → ℕ
fit_number Fits = 0
fit_number Unfit = 10

-- a layer can stand over two memories of words with this letter: neither is void, there is a node left for the
-- layer's own, and the check lets it stand over their shapes
pub record Matches {W : Type 0} (l : Layer) (k : Letter) (a b : Meaning W) : Type 0 where
  pub first : 0 < a.depth
  pub second : 0 < b.depth
  pub few : length a.plan + length b.plan < max_nodes
  pub fits : nodes.Fits l (shaped k a) (shaped k b)

-- what the question answers
abbrev pub FitTold : {W : Type 0} → Layer → Letter → Meaning W → Meaning W → Fit → Type 0
FitTold l k a b Fits = Matches l k a b
FitTold l k a b Unfit = Matches l k a b → ⊥

-- a memory as a half; none where it is void
abbrev pub HalfOf : {W : Type 0} → Letter → Meaning W → Option Half → Type 0
HalfOf k m (Some h) = (0 < m.depth) × (h.shape ≡ shaped k m) × (h.nodes ≡ length m.plan)
HalfOf k m None = m.depth ≡ 0

-- the sizes of a half
pub record Counts (h : Half) (s : Size) : Type 0 where
  pub reads : s.reads ≡ h.shape.reads
  pub writes : s.writes ≡ h.shape.writes
  pub depth : s.depth ≡ h.shape.depth
  pub nodes : s.nodes ≡ h.nodes

-- a half that there is has a depth
abbrev pub Live : Option Half → Type 0
Live (Some h) = 0 < h.shape.depth
Live None = Unit {0}

-- what a layer makes of two halves
abbrev pub Joined : Layer → Half → Half → Option Half → Type 0
Joined l a b (Some h) = (a.nodes + b.nodes < max_nodes) × nodes.Fits l a.shape b.shape × (h.shape ≡ over l a.shape b.shape) × (h.nodes ≡ a.nodes + b.nodes + 1)
Joined l a b None = a.nodes + b.nodes < max_nodes → nodes.Fits l a.shape b.shape → ⊥
