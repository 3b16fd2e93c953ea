-- The halves of a layer: when they are in order, and what the calls to both leave.
use Rattle.std.specs.Prelude.{◌≡◌, ◌<◌}
use Rattle.word.specs.declared.Letter.{Letter}
use Rattle.node.specs.declared.node.Layer.{Layer}
use Rattle.memory.specs.Meaning.{Meaning, SameShape}
use Rattle.memory.specs.Calls.{Edged}
use Rattle.joint.specs.declared.halves.Halves.{Halves}
use Rattle.joint.specs.Piles.{Agreed, Configured, Measured}

-- both halves are in order, and the layer's numbers are theirs
pub record Ready {A B V : Type 0} (l : Layer) (k : Letter) (oa : A → Type 0) (ob : B → Type 0) (ma : A → Meaning V) (mb : B → Meaning V) (h : Halves A B) : Type 0 where
  pub first : oa h.a
  pub second : ob h.b
  pub agreed : Agreed l k h.joint (ma h.a) (mb h.b)

-- and what they are to share holds of their meanings
pub record Together {A B V : Type 0} (l : Layer) (k : Letter) (oa : A → Type 0) (ob : B → Type 0) (ma : A → Meaning V) (mb : B → Meaning V) (pairs : Meaning V → Meaning V → Type 0) (h : Halves A B) : Type 0 where
  pub ready : Ready l k oa ob ma mb h
  pub paired : pairs (ma h.a) (mb h.b)

-- both halves are configured, and the numbers are those that a layer takes from them
abbrev pub Fresh : {A B V : Type 0} → Layer → Letter → (A → Type 0) → (B → Type 0) → (A → Meaning V) → (B → Meaning V) → V → Halves A B → Type 0
Fresh l k oa ob ma mb zero h = Configured oa ma zero h.a × Configured ob mb zero h.b × Measured l k (ma h.a) (mb h.b) h.joint

-- memories that were in order keep their shapes as halves
abbrev pub Reshaped : {A B V : Type 0} → (A → Type 0) → (B → Type 0) → (A → Meaning V) → (B → Meaning V) → A → B → Halves A B → Type 0
Reshaped oa ob ma mb a b h = (oa a → SameShape (ma a) (ma h.a)) × (ob b → SameShape (mb b) (mb h.b))

-- void halves are called no more
abbrev pub Unmoved : {A B : Type 0} → Halves A B → Halves A B → Type 0
Unmoved h h' = h.joint.own.depth ≡ 0 → h' ≡ h

-- the cycle has ended in each half that was in order, unless they are void; the numbers stay
pub record BothEdged {A B V : Type 0} (oa : A → Type 0) (ob : B → Type 0) (ma : A → Meaning V) (mb : B → Meaning V) (h h' : Halves A B) : Type 0 where
  pub first : 0 < h.joint.own.depth → oa h.a → oa h'.a × Edged (ma h.a) (ma h'.a)
  pub second : 0 < h.joint.own.depth → ob h.b → ob h'.b × Edged (mb h.b) (mb h'.b)
  pub joint : h'.joint ≡ h.joint
  pub void : Unmoved h h'
