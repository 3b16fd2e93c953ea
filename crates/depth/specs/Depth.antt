-- The depth layer: what it means by its halves, and what they share while it is in order.
use Rattle.std.specs.Prelude.{◌≡◌, ℕ, ◌+◌, ◌<◌, ◌≤◌, true, false, ◌||◌, Some, None, Option}
use Rattle.node.specs.declared.node.Layer.TheVariants.{Depth as own}
use Rattle.node.specs.Limits.{max_depth}
use Rattle.memory.specs.Meaning.{Meaning, Port, free, holding}
use Rattle.joint.specs.declared.sizes.Joint.{Joint}
use Rattle.joint.specs.Beside.{beside}
use Rattle.joint.specs.Piles.{layer}

-- the address that a port of the layer holds: the one that A's port holds, or else B's, d addresses up; in a layer in
-- order that is within the limit
abbrev pub HeldOver : ℕ → Option ℕ → Option ℕ → Option ℕ → Type 0
HeldOver d (Some x) b r = r ≡ Some x
HeldOver d None (Some y) r = d + y ≤ max_depth → r ≡ Some (d + y)
HeldOver d None None r = r ≡ None

-- no read port is used in both halves, and no write port holds in both
pub record Paired {W : Type 0} (a b : Meaning W) : Type 0 where
  pub used : (p : ℕ) → p < a.reads → a.used p ≡ true → b.used p ≡ false
  pub ports : (p x : ℕ) (w : W) → p < a.writes → a.port p ≡ holding x w → b.port p ≡ free

-- a write port of the layer: what A's port holds, or else what B's holds, d addresses up
abbrev pub stacked : {W : Type 0} → ℕ → Port W → Port W → Port W
stacked d (holding x w) o = holding x w
stacked d free (holding x w) = holding (d + x) w
stacked d free free = free

-- the words are A's and then B's; a read port is used if it is in either half, and a write port holds if it does in
-- either half
abbrev pub deepened : {W : Type 0} → Joint → Meaning W → Meaning W → Meaning W
deepened j a b =
    layer own j a b (beside j.first.depth a.word b.word) (λ p. a.used p || b.used p) (λ p. stacked j.first.depth (a.port p) (b.port p))
