-- A layer over its halves: when it is in order, and what it means.
use Rattle.std.specs.Prelude.{◌<◌}
use Rattle.word.specs.declared.Letter.{Letter}
use Rattle.node.specs.declared.node.Layer.{Layer}
use Rattle.memory.specs.Meaning.{Meaning}
use Rattle.joint.specs.declared.halves.Halves.{Halves}
use Rattle.joint.specs.declared.sizes.Joint.{Joint}
use Rattle.joint.specs.Halves.{Together}

-- a layer that is not void is in order: both halves are in order, its numbers are theirs, and they go together
abbrev pub InOrder : {A B V : Type 0} → Layer → Letter → (A → Type 0) → (B → Type 0) → (A → Meaning V) → (B → Meaning V) → (Joint → Meaning V → Meaning V → Type 0) → Halves A B → Type 0
InOrder l k oa ob ma mb pairs h = 0 < h.joint.own.depth → Together l k oa ob ma mb (pairs h.joint) h

-- what a layer means by its numbers and its halves
abbrev pub meant : {A B V W : Type 0} → (A → Meaning V) → (B → Meaning V) → (Joint → Meaning V → Meaning V → Meaning W) → Halves A B → Meaning W
meant ma mb means h = means h.joint (ma h.a) (mb h.b)
