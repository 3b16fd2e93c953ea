-- The live-value table layer: what it means by its halves and its marks, and what the halves share while it is in order.
use Rattle.std.specs.Prelude.{◌≡◌, ℕ, ◌<◌, List, length, replicate, Some, ◌≢◌, slice_index_or}
use Rattle.node.specs.declared.node.Layer.TheVariants.{Lvt as own}
use Rattle.node.specs.Limits.{max_marks}
use Rattle.memory.specs.Meaning.{Meaning, address}
use Rattle.memory.specs.Calls.{Waiting, Idle}
use Rattle.joint.specs.declared.sizes.Joint.{Joint}
use Rattle.joint.specs.Beside.{beside}
use Rattle.joint.specs.Piles.{layer}
use Rattle.lvt.specs.declared.Half.{Half}
use Rattle.lvt.specs.declared.Half.TheVariants.{First, Second}

-- both halves are used alike, and no address is held in both
pub record Paired {W : Type 0} (a b : Meaning W) : Type 0 where
  pub used : (p : ℕ) → p < a.reads → b.used p ≡ a.used p
  pub apart : (q q' x : ℕ) → q < a.writes → q' < b.writes → address (a.port q) ≡ Some x → address (b.port q') ≢ Some x

-- the one of two that belongs to a half
abbrev pub pick : {W : Type 0} → Half → W → W → W
pick First u v = u
pick Second u v = v

-- the half that the mark of an address names
abbrev pub marked : List Half → ℕ → Half
marked marks x = slice_index_or marks x First

-- the words are those of the marked halves; the read ports are those of both; the write ports are A's and then B's
abbrev pub tabled : {W : Type 0} → Joint → List Half → Meaning W → Meaning W → Meaning W
tabled j marks a b = layer own j a b (λ x. pick (marked marks x) (a.word x) (b.word x)) a.used (beside j.first.writes a.port b.port)

-- every mark names the first half
abbrev pub AllFirst : List Half → Type 0
AllFirst marks = marks ≡ replicate max_marks First

-- the marks of the addresses that a memory holds name the half; the others are as they were
pub record Marks {W : Type 0} (m : Meaning W) (h : Half) (before after : List Half) : Type 0 where
  pub size : length after ≡ length before
  pub moved : (x : ℕ) → Waiting m x → marked after x ≡ h
  pub kept : (x : ℕ) → Idle m x → marked after x ≡ marked before x

-- the marks of the addresses that the first half holds name the first, those of the addresses that the second holds
-- the second, and the others are as they were
pub record Moved {W : Type 0} (a b : Meaning W) (before after : List Half) : Type 0 where
  pub first : (x : ℕ) → Waiting a x → marked after x ≡ First
  pub second : (x : ℕ) → Waiting b x → marked after x ≡ Second
  pub kept : (x : ℕ) → Idle a x → Idle b x → marked after x ≡ marked before x

-- the same where an address may be held in both halves: its mark names the second
pub record Overlaid {W : Type 0} (a b : Meaning W) (before after : List Half) : Type 0 where
  pub first : (x : ℕ) → Waiting a x → Idle b x → marked after x ≡ First
  pub second : (x : ℕ) → Waiting b x → marked after x ≡ Second
  pub kept : (x : ℕ) → Idle a x → Idle b x → marked after x ≡ marked before x
