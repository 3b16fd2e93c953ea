-- Runs: what was tried on a memory since its configure, and what the rules say of it.
--
-- The rules know the numbers of ports and addresses of a memory, and the calls with their answers, and nothing else:
-- no state of a memory stands here, but at the end, where `Stands` says what such a state is after a run.
use Rattle.std.specs.Prelude.{◌≡◌, ℕ, ◌<◌, ◌≤◌, true, ◌↔◌, List, [], ◌∷◌, length, ◌≢◌}
use Rattle.memory.specs.declared.refusal.Refusal.{Refusal}
use Rattle.memory.specs.declared.refusal.Refusal.TheVariants.{NoPort, NoAddress, Busy, Held}
use Rattle.memory.specs.Refusals.{refusal}
use Rattle.memory.specs.Meaning.{Meaning, holding}
use Rattle.runs.specs.declared.call.Answer.{Answer}
use Rattle.runs.specs.declared.call.Answer.TheVariants.{Word, Accepted, Edged, Refused}
use Rattle.runs.specs.declared.call.Call.{Call}
use Rattle.runs.specs.declared.call.Call.TheVariants.{Read, Write, Edge}

infixl 20 ◌▹◌
infix 25 ◌⇒◌
-- a call with the answer that it got
pub data Entry (W : Type 0) : Type 0 where
  ◌⇒◌ : Call W → Answer W → Entry W

-- a run: configured, and then one call after the other, the latest on the right
pub data Run (W : Type 0) : Type 0 where
  configured : Run W
  ◌▹◌ : Run W → Entry W → Run W

-- a run that goes on with the calls of a list, which get the answers of another, to the end of the shorter one
abbrev pub run_on : {W : Type 0} → Run W → List (Call W) → List (Answer W) → Run W
run_on t [] answers = t
run_on t (c ∷ calls) [] = t
run_on t (c ∷ calls) (r ∷ answers) = run_on (t ▹ (c ⇒ r)) calls answers

-- the run of these calls and these answers
abbrev pub run_of : {W : Type 0} → List (Call W) → List (Answer W) → Run W
run_of calls answers = run_on configured calls answers

-- an entry inside a cycle: a read or a write, not an edge
pub data Inside {W : Type 0} : Entry W → Type 0 where
  reads : {p a : ℕ} {r : Answer W} → Inside (Read p a ⇒ r)
  writes : {p a : ℕ} {w : W} {r : Answer W} → Inside (Write p a w ⇒ r)

-- x is in the run, and no edge comes after it: it was since the last edge, or since configure where there was none
pub data Since {W : Type 0} (x : Entry W) : Run W → Type 0 where
  latest : {t : Run W} → Since x (t ▹ x)
  earlier : {t : Run W} {y : Entry W} → Inside y → Since x t → Since x (t ▹ y)

-- the second run is what of the first was before its last edge; nothing was where there is no edge
pub data Before {W : Type 0} : Run W → Run W → Type 0 where
  never : Before configured configured
  now : {t : Run W} {r : Answer W} → Before (t ▹ (Edge ⇒ r)) t
  earlier : {t s : Run W} {y : Entry W} → Inside y → Before t s → Before (t ▹ y) s

-- the entry is an accepted write of the word to address a
pub data Put {W : Type 0} (a : ℕ) : Entry W → W → Type 0 where
  put : {p : ℕ} {w : W} → Put a (Write p a w ⇒ Accepted) w

-- the word of the latest accepted write to address a in the whole run; zero where there is none
pub data Latest {W : Type 0} (zero : W) (a : ℕ) : Run W → W → Type 0 where
  none : Latest zero a configured zero
  latest : {t : Run W} {y : Entry W} {w : W} → Put a y w → Latest zero a (t ▹ y) w
  earlier : {t : Run W} {y : Entry W} {w : W} → ((v : W) → Put a y v → ⊥) → Latest zero a t w → Latest zero a (t ▹ y) w

-- the word at address a after a run: that of the latest accepted write to it before the last edge, or zero
pub record At {W : Type 0} (zero : W) (t : Run W) (a : ℕ) (w : W) : Type 0 where
  pub before : Run W
  pub edge : Before t before
  pub word : Latest zero a before w

-- read port p is used: a read through it was accepted since the last edge
abbrev pub Used : {W : Type 0} → Run W → ℕ → Type 0
Used {W} t p = (a : ℕ) × (w : W) × Since (Read p a ⇒ Word w) t

-- write port p holds an address and a word: that write through it was accepted since the last edge
abbrev pub Holding : {W : Type 0} → Run W → ℕ → ℕ → W → Type 0
Holding t p a w = Since (Write p a w ⇒ Accepted) t

-- how many read ports, write ports and addresses a memory has
pub record Sizes : Type 0 where
  pub reads : ℕ
  pub writes : ℕ
  pub depth : ℕ

-- when the rule of each refusal refuses a call, judged on the run before the call
abbrev pub Faulty : {W : Type 0} → Sizes → Run W → Call W → Refusal → Type 0
Faulty s t (Read p a) NoPort = s.reads ≤ p
Faulty s t (Read p a) NoAddress = s.depth ≤ a
Faulty s t (Read p a) Busy = Used t p
Faulty s t (Read p a) Held = ⊥
Faulty s t (Write p a w) NoPort = s.writes ≤ p
Faulty s t (Write p a w) NoAddress = s.depth ≤ a
Faulty {W} s t (Write p a w) Busy = (b : ℕ) × (v : W) × Holding t p b v
Faulty {W} s t (Write p a w) Held = (q : ℕ) × (v : W) × (q ≢ p) × Holding t q a v
Faulty s t Edge n = ⊥

-- the refusal of the lowest number whose rule refuses
pub record First (faulty : Refusal → Type 0) (n : Refusal) : Type 0 where
  pub holds : faulty n
  pub first : (k : Refusal) → refusal k < refusal n → faulty k → ⊥

-- the second run began with the first, or is the first
pub data Began {W : Type 0} (s : Run W) : Run W → Type 0 where
  whole : Began s s
  part : {t : Run W} {x : Entry W} → Began s t → Began s (t ▹ x)

-- the answers that suit a call: a word suits a read, acceptance a write, and a refusal either; an edge is never refused
pub data Suits {W : Type 0} : Call W → Answer W → Type 0 where
  read : {p a : ℕ} {w : W} → Suits (Read p a) (Word w)
  written : {p a : ℕ} {w : W} → Suits (Write p a w) Accepted
  edged : Suits Edge Edged
  unread : {p a : ℕ} {n : Refusal} → Suits (Read p a) (Refused n)
  unwritten : {p a : ℕ} {w : W} {n : Refusal} → Suits (Write p a w) (Refused n)

-- the rules of a run, at each of its calls: `before` is the run up to the call
pub record Obeys {W : Type 0} (zero : W) (s : Sizes) (t : Run W) : Type 0 where
  -- every call gets an answer that suits it
  pub suits : (before : Run W) (c : Call W) (r : Answer W) → Began (before ▹ (c ⇒ r)) t → Suits c r
  -- an accepted read gives the word of the latest accepted write to its address before the last edge, or zero
  pub reads : (before : Run W) (p a : ℕ) (w : W) → Began (before ▹ (Read p a ⇒ Word w)) t → At zero before a w
  -- a call is refused exactly when the rule of some refusal refuses it
  pub refused : (before : Run W) (c : Call W) (r : Answer W) → Began (before ▹ (c ⇒ r)) t → ((n : Refusal) × (r ≡ Refused n)) ↔ ((n : Refusal) × Faulty s before c n)
  -- and the answer is the first such refusal
  pub first : (before : Run W) (c : Call W) (n : Refusal) → Began (before ▹ (c ⇒ Refused n)) t → First (Faulty s before c) n

-- the sizes of a memory
abbrev pub sizes : {W : Type 0} → Meaning W → Sizes
sizes m = record { reads = m.reads; writes = m.writes; depth = m.depth }

-- a memory after a run: each address has its word, each read port is used or not, and each write port holds what it holds
pub record Stands {W : Type 0} (zero : W) (t : Run W) (m : Meaning W) : Type 0 where
  pub words : (a : ℕ) → a < m.depth → At zero t a (m.word a)
  pub used : (p : ℕ) → p < m.reads → (m.used p ≡ true) ↔ Used t p
  pub ports : (p a : ℕ) (w : W) → p < m.writes → (m.port p ≡ holding a w) ↔ Holding t p a w

-- these calls were tried on a memory and got these answers, each one, by the rules; the memory is as that run leaves it
pub record Ran {W : Type 0} (zero : W) (calls : List (Call W)) (answers : List (Answer W)) (m : Meaning W) : Type 0 where
  pub each : length answers ≡ length calls
  pub obeys : Obeys zero (sizes m) (run_of calls answers)
  pub stands : Stands zero (run_of calls answers) m
