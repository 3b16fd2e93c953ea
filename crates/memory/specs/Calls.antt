-- What each call answers and leaves.
use Rattle.std.specs.Prelude.{◌≡◌, ℕ, ◌<◌, ◌≤◌, Bool, true, false, Some, None, Ok, Err, Option, Result, ◌≢◌}
use Rattle.memory.specs.declared.refusal.Refusal.{Refusal}
use Rattle.memory.specs.declared.refusal.Refusal.TheVariants.{NoPort, NoAddress, Busy, Held}
use Rattle.memory.specs.Meaning.{Meaning, free, holding, address, SameShape, SameWords}

-- whether read port p is used
pub record UsedAt {W : Type 0} (m : Meaning W) (p : ℕ) (r : Bool) : Type 0 where
  pub inside : p < m.reads → r ≡ m.used p
  pub beyond : m.reads ≤ p → r ≡ false

-- the address that write port p holds
pub record HeldAt {W : Type 0} (m : Meaning W) (p : ℕ) (r : Option ℕ) : Type 0 where
  pub inside : p < m.writes → r ≡ address (m.port p)
  pub beyond : m.writes ≤ p → r ≡ None

-- some port holds the address
abbrev pub Waiting : {W : Type 0} → Meaning W → ℕ → Type 0
Waiting m x = (q : ℕ) × (q < m.writes) × (address (m.port q) ≡ Some x)

-- no port holds the address
abbrev pub Idle : {W : Type 0} → Meaning W → ℕ → Type 0
Idle m x = (q : ℕ) → q < m.writes → address (m.port q) ≢ Some x

-- whether some port holds the address
abbrev pub Waits : {W : Type 0} → Meaning W → ℕ → Bool → Type 0
Waits m x true = Waiting m x
Waits m x false = Idle m x

-- the first rule that refuses a read through port p at address x, or none
abbrev pub MayRead : {W : Type 0} → Meaning W → ℕ → ℕ → Result (Unit {0}) Refusal → Type 0
MayRead m p x (Err NoPort) = m.reads ≤ p
MayRead m p x (Err NoAddress) = (p < m.reads) × (m.depth ≤ x)
MayRead m p x (Err Busy) = (p < m.reads) × (x < m.depth) × (m.used p ≡ true)
MayRead m p x (Err Held) = ⊥
MayRead m p x (Ok _) = (p < m.reads) × (x < m.depth) × (m.used p ≡ false)

-- the first rule that refuses a write through port p at address x, or none
abbrev pub MayWrite : {W : Type 0} → Meaning W → ℕ → ℕ → Result (Unit {0}) Refusal → Type 0
MayWrite m p x (Err NoPort) = m.writes ≤ p
MayWrite m p x (Err NoAddress) = (p < m.writes) × (m.depth ≤ x)
MayWrite m p x (Err Busy) = (p < m.writes) × (x < m.depth) × ((y : ℕ) × (address (m.port p) ≡ Some y))
MayWrite m p x (Err Held) = (p < m.writes) × (x < m.depth) × (m.port p ≡ free) × Waiting m x
MayWrite m p x (Ok _) = (p < m.writes) × (x < m.depth) × (m.port p ≡ free) × Idle m x

-- nothing has changed
pub record Same {W : Type 0} (m m' : Meaning W) : Type 0 where
  pub words : SameWords m m'
  pub used : (q : ℕ) → q < m.reads → m'.used q ≡ m.used q
  pub ports : (q : ℕ) → q < m.writes → m'.port q ≡ m.port q

-- read port p is used now, and nothing else has changed
pub record Marked {W : Type 0} (m m' : Meaning W) (p : ℕ) : Type 0 where
  pub words : SameWords m m'
  pub here : m'.used p ≡ true
  pub used : (q : ℕ) → q < m.reads → (q ≢ p) → m'.used q ≡ m.used q
  pub ports : (q : ℕ) → q < m.writes → m'.port q ≡ m.port q

-- write port p holds the address and the word now, and nothing else has changed
pub record Stored {W : Type 0} (m m' : Meaning W) (p x : ℕ) (w : W) : Type 0 where
  pub words : SameWords m m'
  pub used : (q : ℕ) → q < m.reads → m'.used q ≡ m.used q
  pub here : m'.port p ≡ holding x w
  pub ports : (q : ℕ) → q < m.writes → (q ≢ p) → m'.port q ≡ m.port q

-- what a read answers and leaves
abbrev pub Read : {W : Type 0} → Meaning W → ℕ → ℕ → Result W Refusal → Meaning W → Type 0
Read m p x (Ok w) m' = MayRead m p x (Ok tt) × (w ≡ m.word x) × Marked m m' p
Read m p x (Err e) m' = MayRead m p x (Err e) × Same m m'

-- what a write answers and leaves
abbrev pub Write : {W : Type 0} → Meaning W → ℕ → ℕ → W → Result (Unit {0}) Refusal → Meaning W → Type 0
Write m p x w (Ok _) m' = MayWrite m p x (Ok tt) × Stored m m' p x w
Write m p x w (Err e) m' = MayWrite m p x (Err e) × Same m m'

-- what an edge leaves: held words at their addresses, other words as they were, and every port free
pub record Edged {W : Type 0} (m m' : Meaning W) : Type 0 where
  pub shape : SameShape m m'
  pub landed : (q x : ℕ) (w : W) → q < m.writes → m.port q ≡ holding x w → m'.word x ≡ w
  pub kept : (x : ℕ) → x < m.depth → Idle m x → m'.word x ≡ m.word x
  pub used : (q : ℕ) → q < m.reads → m'.used q ≡ false
  pub ports : (q : ℕ) → q < m.writes → m'.port q ≡ free
