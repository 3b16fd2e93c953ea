-- The width layer: what it means by its halves, and what they share while it is in order.
use Rattle.std.specs.Prelude.{◌≡◌, ℕ, ◌<◌}
use Rattle.kinds.specs.declared.bits32.Bits32.{Bits32}
use Rattle.kinds.specs.declared.bits64.Bits64.{Bits64}
use Rattle.node.specs.declared.node.Layer.TheVariants.{Width as own}
use Rattle.memory.specs.Meaning.{Meaning, Port, free, holding, address}
use Rattle.joint.specs.declared.sizes.Joint.{Joint}
use Rattle.joint.specs.Piles.{layer}
use Rattle.width.specs.Words.{wide}

-- both halves have used the same read ports, and hold the same addresses
pub record Paired {W : Type 0} (a b : Meaning W) : Type 0 where
  pub used : (p : ℕ) → p < a.reads → b.used p ≡ a.used p
  pub ports : (p : ℕ) → p < a.writes → address (b.port p) ≡ address (a.port p)

-- what two ports hold together: the address with both words, where both hold
abbrev pub together : Port Bits32 → Port Bits32 → Port Bits64
together free o = free
together (holding x u) free = free
together (holding x u) (holding y v) = holding x (wide u v)

-- each word is A's in its low half and B's in its high half; the ports are those of both
abbrev pub widened : Joint → Meaning Bits32 → Meaning Bits32 → Meaning Bits64
widened j a b = layer own j a b (λ x. wide (a.word x) (b.word x)) a.used (λ p. together (a.port p) (b.port p))
