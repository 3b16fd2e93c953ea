-- The exclusive-or layer: what it means by its halves, and what they share while it is in order.
use Rattle.std.specs.Prelude.{◌≡◌, ℕ, ◌-◌, ◌<◌, Bool, true, false, Some, Ok, Result, ◌≢◌}
use Rattle.node.specs.declared.node.Layer.TheVariants.{Xor as own}
use Rattle.memory.specs.declared.refusal.Refusal.{Refusal}
use Rattle.memory.specs.Meaning.{Meaning, Port, free, holding, address}
use Rattle.memory.specs.Calls.{MayRead, MayWrite, Marked, Stored}
use Rattle.joint.specs.declared.sizes.Joint.{Joint}
use Rattle.joint.specs.declared.sizes.Size.{Size}
use Rattle.joint.specs.Beside.{beside}
use Rattle.joint.specs.Piles.{layer}

-- the read port of the other half that is kept for write port w of a half: the last read ports are, in the order of
-- the write ports, so that it is reads - writes + w
abbrev pub recovery : Size → Size → ℕ → ℕ
recovery half other w = other.reads - (half.writes - w)

-- whether a write port holds something
abbrev pub busy : {W : Type 0} → Port W → Bool
busy free = false
busy (holding x w) = true

-- both halves are read alike; a recovery port is used exactly while its write port holds; no address is held in both
pub record Paired {W : Type 0} (j : Joint) (a b : Meaning W) : Type 0 where
  pub used : (q : ℕ) → q < j.own.reads → b.used q ≡ a.used q
  pub first : (w : ℕ) → w < j.first.writes → b.used (recovery j.first j.second w) ≡ busy (a.port w)
  pub second : (w : ℕ) → w < j.second.writes → a.used (recovery j.second j.first w) ≡ busy (b.port w)
  pub apart : (w w' x : ℕ) → w < j.first.writes → w' < j.second.writes → address (a.port w) ≡ Some x → address (b.port w') ≢ Some x

-- a write port with the other half's word at the address added to the held one
abbrev pub added : {W : Type 0} → (ℕ → W → W) → Port W → Port W
added sum free = free
added sum (holding x u) = holding x (sum x u)

-- each word is the sum of A's and B's; a read port is the port of both; the write ports are A's and then B's
abbrev pub xor : {W : Type 0} → (W → W → W) → Joint → Meaning W → Meaning W → Meaning W
xor plus j a b =
    layer own j a b (λ x. plus (a.word x) (b.word x)) a.used
    (beside j.first.writes (λ w. added (λ x u. plus u (b.word x)) (a.port w)) (λ w. added (λ x u. plus (a.word x) u) (b.port w)))

-- a read of both halves through one port, where neither refuses: the sum of their words
abbrev pub ReadBoth : {W : Type 0} → (W → W → W) → Meaning W → Meaning W → ℕ → ℕ → Result W Refusal → Meaning W → Meaning W → Type 0
ReadBoth plus a b p x r a' b' = MayRead a p x (Ok tt) → MayRead b p x (Ok tt) → (r ≡ Ok (plus (a.word x) (b.word x))) × Marked a a' p × Marked b b' p

-- a write into one half through port p with a read of the other through port c, where neither refuses: the half
-- holds the difference to the other's word
abbrev pub Put : {W : Type 0} → (W → W → W) → Meaning W → Meaning W → ℕ → ℕ → ℕ → W → Result (Unit {0}) Refusal → Meaning W → Meaning W → Type 0
Put minus half other p c x w r half' other' = MayWrite half p x (Ok tt) → MayRead other c x (Ok tt) → (r ≡ Ok tt) × Stored half half' p x (minus w (other.word x)) × Marked other other' c
