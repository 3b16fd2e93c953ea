-- The replicate layer: what it means by its halves, and what they share while it is in order.
use Rattle.std.specs.Prelude.{◌≡◌, ℕ, ◌<◌}
use Rattle.node.specs.declared.node.Layer.TheVariants.{Replicate as own}
use Rattle.memory.specs.Meaning.{Meaning}
use Rattle.joint.specs.declared.sizes.Joint.{Joint}
use Rattle.joint.specs.Beside.{beside}
use Rattle.joint.specs.Piles.{layer}

-- both halves have the same words, and hold the same
pub record Paired {W : Type 0} (a b : Meaning W) : Type 0 where
  pub words : (x : ℕ) → x < a.depth → b.word x ≡ a.word x
  pub ports : (w : ℕ) → w < a.writes → b.port w ≡ a.port w

-- the words are A's; the read ports are A's and then B's; the write ports are those of both
abbrev pub replicated : {W : Type 0} → Joint → Meaning W → Meaning W → Meaning W
replicated j a b = layer own j a b a.word (beside j.first.reads a.used b.used) a.port
