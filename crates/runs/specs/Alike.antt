-- A run without its refused calls, and with the reads and writes of each cycle in another order.
use Rattle.std.specs.Prelude.{◌≡◌, ℕ, ◌<◌, List, length, ◌≢◌}
use Rattle.memory.specs.declared.refusal.Refusal.{Refusal}
use Rattle.memory.specs.Meaning.{Meaning}
use Rattle.runs.specs.declared.call.Answer.{Answer}
use Rattle.runs.specs.declared.call.Answer.TheVariants.{Refused}
use Rattle.runs.specs.declared.call.Call.{Call}
use Rattle.runs.specs.Runs.{Entry, ◌⇒◌, Run, configured, ◌▹◌, run_of, Inside}

-- the answer is no refusal
abbrev pub NotRefused : {W : Type 0} → Answer W → Type 0
NotRefused r = (n : Refusal) → r ≢ Refused n

-- the second run is the first without its refused calls
pub data LeftOut {W : Type 0} : Run W → Run W → Type 0 where
  none : LeftOut configured configured
  left : {t s : Run W} {c : Call W} {n : Refusal} → LeftOut t s → LeftOut (t ▹ (c ⇒ Refused n)) s
  kept : {t s : Run W} {c : Call W} {r : Answer W} → NotRefused r → LeftOut t s → LeftOut (t ▹ (c ⇒ r)) (s ▹ (c ⇒ r))

-- the second run is the first with the reads and writes of each cycle in some order: neighbours that are no edge change
-- places, as often as you like
pub data Moved {W : Type 0} : Run W → Run W → Type 0 where
  same : {t : Run W} → Moved t t
  change : {t : Run W} {x y : Entry W} → Inside x → Inside y → Moved (t ▹ x ▹ y) (t ▹ y ▹ x)
  more : {t s : Run W} {x : Entry W} → Moved t s → Moved (t ▹ x) (s ▹ x)
  again : {t s u : Run W} → Moved t s → Moved s u → Moved t u

-- first the one, then the other
pub record Rearranged {W : Type 0} (t u : Run W) : Type 0 where
  pub without : Run W
  pub left : LeftOut t without
  pub moved : Moved without u

-- two memories have as many ports and addresses; their plans may differ
pub record SameSizes {W : Type 0} (m n : Meaning W) : Type 0 where
  pub reads : n.reads ≡ m.reads
  pub writes : n.writes ≡ m.writes
  pub depth : n.depth ≡ m.depth

-- and the same words, the same used read ports, and the same in each write port
pub record Alike {W : Type 0} (m n : Meaning W) : Type 0 where
  pub sizes : SameSizes m n
  pub words : (a : ℕ) → a < m.depth → n.word a ≡ m.word a
  pub used : (p : ℕ) → p < m.reads → n.used p ≡ m.used p
  pub ports : (p : ℕ) → p < m.writes → n.port p ≡ m.port p

-- two runs agree: where the memories have as many ports and addresses, and the second calls with some answers are the
-- first run rearranged, the second run got those answers, and the memories end alike
unfoldable pub Agree : {W : Type 0} → (calls others : List (Call W)) (first second : List (Answer W)) (m n : Meaning W) → Type 0
Agree {W} calls others first second m n =
    SameSizes m n → (some : List (Answer W)) → length some ≡ length others → Rearranged (run_of calls first) (run_of others some) → (second ≡ some) × Alike m n
