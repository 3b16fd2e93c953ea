-- What a memory is at any moment, and what always holds of it.
use Rattle.std.specs.Prelude.{◌≡◌, ℕ, ◌<◌, Bool, false, List, [], Some, None, Option}
use Rattle.word.specs.declared.Letter.{Letter}
use Rattle.node.specs.declared.node.Node.{Node}
use Rattle.node.specs.declared.shape.Shape.{Shape}
use Rattle.node.specs.Plans.{Passes}

-- a write port: free, or holding an address and a word
pub data Port (W : Type 0) : Type 0 where
  free : Port W
  holding : ℕ → W → Port W

-- the address that a write port holds
abbrev pub address : {W : Type 0} → Port W → Option ℕ
address free = None
address (holding x w) = Some x

-- a memory, place by place: a word at each address below the depth, each read port below reads used or not, each
-- write port below writes; and its plan. What stands past these bounds means nothing.
pub record Meaning (W : Type 0) : Type 0 where
  pub reads : ℕ
  pub writes : ℕ
  pub depth : ℕ
  pub word : ℕ → W
  pub used : ℕ → Bool
  pub port : ℕ → Port W
  pub plan : List Node

-- held addresses are below the depth, and no two ports hold one address
pub record Tidy {W : Type 0} (m : Meaning W) : Type 0 where
  pub within : (q x : ℕ) → q < m.writes → address (m.port q) ≡ Some x → x < m.depth
  pub apart : (q q' x : ℕ) → q < m.writes → q' < m.writes → address (m.port q) ≡ Some x → address (m.port q') ≡ Some x → q ≡ q'

-- the shape of a memory whose words have this letter
abbrev pub shaped : {W : Type 0} → Letter → Meaning W → Shape
shaped k m = record { letter = k; reads = m.reads; writes = m.writes; depth = m.depth }

-- a memory's plan passes the check and gives its shape; a void memory has no ports, no depth and an empty plan
pub data Planned {W : Type 0} (k : Letter) (m : Meaning W) : Type 0 where
  whole : Passes m.plan (shaped k m) → Planned k m
  void : m.plan ≡ [] → m.reads ≡ 0 → m.writes ≡ 0 → m.depth ≡ 0 → Planned k m

-- ports, depth and plan stay
pub record SameShape {W : Type 0} (m m' : Meaning W) : Type 0 where
  pub reads : m'.reads ≡ m.reads
  pub writes : m'.writes ≡ m.writes
  pub depth : m'.depth ≡ m.depth
  pub plan : m'.plan ≡ m.plan

-- the words stay too
pub record SameWords {W : Type 0} (m m' : Meaning W) : Type 0 where
  pub shape : SameShape m m'
  pub words : (x : ℕ) → x < m.depth → m'.word x ≡ m.word x

-- every word is zero, every port free
pub record Cleared {W : Type 0} (zero : W) (m : Meaning W) : Type 0 where
  pub words : (x : ℕ) → x < m.depth → m.word x ≡ zero
  pub used : (q : ℕ) → q < m.reads → m.used q ≡ false
  pub ports : (q : ℕ) → q < m.writes → m.port q ≡ free
