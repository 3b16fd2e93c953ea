-- What a run leaves, computed from its calls and answers. No contract cites this file.
use Rattle.std.proofs.Common.{◌≡◌, ℕ, ◌<◌, Bool, true, false, cond, ◌||◌, eqb, leb, ◌⊎◌, refl, inl, inr, arith}
use Rattle.std.proofs.lemmas.Bool.{both_ways, cases_Bool}
use Rattle.memory.specs.declared.refusal.Refusal.{Refusal}
use Rattle.memory.specs.declared.refusal.Refusal.TheVariants.{NoPort, NoAddress, Busy, Held}
use Rattle.memory.specs.Meaning.{Port, free, holding}
use Rattle.memory.specs.Refusals.{refusal}
use Rattle.runs.specs.declared.call.Answer.{Answer}
use Rattle.runs.specs.declared.call.Answer.TheVariants.{Word, Accepted, Edged, Refused}
use Rattle.runs.specs.declared.call.Call.{Call}
use Rattle.runs.specs.declared.call.Call.TheVariants.{Read, Write, Edge}
use Rattle.runs.specs.Runs.{Entry, ◌⇒◌, Run, configured, ◌▹◌, Inside, reads, writes, Put, put, Sizes, First}

-- whether a write port holds something
abbrev pub busy : {W : Type 0} → Port W → Bool
busy free = false
busy (holding a w) = true

-- which read ports are used, what the write ports hold, which addresses are held, the words that the next edge
-- leaves, and the words now
pub record State (W : Type 0) : Type 0 where
  pub used : ℕ → Bool
  pub port : ℕ → Port W
  pub held : ℕ → Bool
  pub coming : ℕ → W
  pub word : ℕ → W

-- after configure
abbrev pub begun : {W : Type 0} → W → State W
begun z = record { used = λ _. false; port = λ _. free; held = λ _. false; coming = λ _. z; word = λ _. z }

-- after an accepted read
abbrev pub took : {W : Type 0} → State W → ℕ → State W
took s p =
    record { used = λ q. eqb q p || s.used q; port = s.port; held = s.held; coming = s.coming; word = s.word }

-- after an accepted write
abbrev pub filled : {W : Type 0} → State W → ℕ → ℕ → W → State W
filled s p a w =
    record {
      used = s.used;
      port = λ q. cond (eqb q p) (holding a w) (s.port q);
      held = λ b. eqb b a || s.held b;
      coming = λ b. cond (eqb b a) w (s.coming b);
      word = s.word;
    }

-- after an edge
abbrev pub clocked : {W : Type 0} → State W → State W
clocked s = record { used = λ _. false; port = λ _. free; held = λ _. false; coming = s.coming; word = s.coming }

-- after a call that got this answer
abbrev pub step : {W : Type 0} → State W → Entry W → State W
step s (Read p a ⇒ Word w) = took s p
step s (Read p a ⇒ Accepted) = s
step s (Read p a ⇒ Edged) = s
step s (Read p a ⇒ Refused n) = s
step s (Write p a w ⇒ Word v) = s
step s (Write p a w ⇒ Accepted) = filled s p a w
step s (Write p a w ⇒ Edged) = s
step s (Write p a w ⇒ Refused n) = s
step s (Edge ⇒ r) = clocked s

-- after a run
abbrev pub after : {W : Type 0} → W → Run W → State W
after z configured = begun z
after z (t ▹ x) = step (after z t) x

-- what an entry does to a state: a read takes a port, a write fills one, an edge clocks, and any other entry does nothing
pub data Kind {W : Type 0} : Entry W → Type 0 where
  reading : {p a : ℕ} {w : W} → Kind (Read p a ⇒ Word w)
  writing : {p a : ℕ} {w : W} → Kind (Write p a w ⇒ Accepted)
  clocking : {r : Answer W} → Kind (Edge ⇒ r)
  idle : {y : Entry W} → Inside y → ((s : State W) → step s y ≡ s) → ((a : ℕ) (v : W) → Put a y v → ⊥) → Kind y

-- only an accepted call puts a word
abbrev Taken : {W : Type 0} → Entry W → Type 0
Taken (c ⇒ Word v) = ⊥
Taken (c ⇒ Accepted) = Unit {0}
Taken (c ⇒ Edged) = ⊥
Taken (c ⇒ Refused n) = ⊥

put_taken : {W : Type 0} {a : ℕ} {y : Entry W} {w : W} → Put a y w → Taken y
put_taken put = tt

pub kind : {W : Type 0} (y : Entry W) → Kind y
kind (Read p a ⇒ Word w) = reading
kind (Read p a ⇒ Accepted) = idle reads (λ s. refl) (λ b v e. elim e [ ])
kind (Read p a ⇒ Edged) = idle reads (λ s. refl) (λ b u e. elim e [ ])
kind (Read p a ⇒ Refused n) = idle reads (λ s. refl) (λ b u e. elim e [ ])
kind (Write p a w ⇒ Word v) = idle writes (λ s. refl) (λ b u e. put_taken e)
kind (Write p a w ⇒ Accepted) = writing
kind (Write p a w ⇒ Edged) = idle writes (λ s. refl) (λ b u e. put_taken e)
kind (Write p a w ⇒ Refused n) = idle writes (λ s. refl) (λ b u e. put_taken e)
kind (Edge ⇒ r) = clocking

-- what holds of a state before a read or a write holds after it
pub inside : {W : Type 0} (P : State W → Type 0) (s : State W) {y : Entry W} → Inside y → P s → ((p : ℕ) → P (took s p)) → ((p a : ℕ) (w : W) → P (filled s p a w)) → P (step s y)
inside P s (reads {r = Word w}) h f g = f _
inside P s (reads {r = Accepted}) h f g = h
inside P s (reads {r = Edged}) h f g = h
inside P s (reads {r = Refused n}) h f g = h
inside P s (writes {r = Word w}) h f g = h
inside P s (writes {r = Accepted}) h f g = g _ _ _
inside P s (writes {r = Edged}) h f g = h
inside P s (writes {r = Refused n}) h f g = h

-- what holds of the four refusals holds of each
pub each : (P : Refusal → Type 0) → P NoPort → P NoAddress → P Busy → P Held → (n : Refusal) → P n
each P port address busy held NoPort = port
each P port address busy held NoAddress = address
each P port address busy held Busy = busy
each P port address busy held Held = held

-- the first refusal whose test is true, or the answer where none is
abbrev pub judge : {W : Type 0} → (Refusal → Bool) → Answer W → Answer W
judge test r =
    cond (test NoPort) (Refused NoPort) (cond (test NoAddress) (Refused NoAddress) (cond (test Busy) (Refused Busy) (cond (test Held) (Refused Held) r)))

-- the test of a refusal is true
abbrev pub True : (Refusal → Bool) → Refusal → Type 0
True test n = test n ≡ true

-- no test is true
abbrev pub AllFalse : (Refusal → Bool) → Type 0
AllFalse test = (n : Refusal) → test n ≡ false

-- what holds of the first refusal, and of the answer where there is none, holds of the judgement
pub judged : {W : Type 0} (P : Answer W → Type 0) (test : Refusal → Bool) (r : Answer W) → ((n : Refusal) → First (True test) n → P (Refused n)) → (AllFalse test → P r) → P (judge test r)
judged P test r stop pass = by_port (cases_Bool (test NoPort))
  where
    not : (n : Refusal) → test n ≡ false → True test n → ⊥
    not n e h = both_ways (test n) e h

    by_held : test NoPort ≡ false → test NoAddress ≡ false → test Busy ≡ false → True test Held ⊎ (test Held ≡ false) → P (judge test r)
    by_held port address busy (inl h) =
        rw (port, address, busy, h) (stop Held (record { holds = h; first = each (λ k. refusal k < 4 → True test k → ⊥) (λ _. not NoPort port) (λ _. not NoAddress address) (λ _. not Busy busy) (λ lt. absurd (omega arith)) }))
    by_held port address busy (inr e) = rw (port, address, busy, e) (pass (each (λ k. test k ≡ false) port address busy e))

    by_busy : test NoPort ≡ false → test NoAddress ≡ false → True test Busy ⊎ (test Busy ≡ false) → P (judge test r)
    by_busy port address (inl h) =
        rw (port, address, h) (stop Busy (record { holds = h; first = each (λ k. refusal k < 3 → True test k → ⊥) (λ _. not NoPort port) (λ _. not NoAddress address) (λ lt. absurd (omega arith)) (λ lt. absurd (omega arith)) }))
    by_busy port address (inr e) = by_held port address e (cases_Bool (test Held))

    by_address : test NoPort ≡ false → True test NoAddress ⊎ (test NoAddress ≡ false) → P (judge test r)
    by_address port (inl h) =
        rw (port, h) (stop NoAddress (record { holds = h; first = each (λ k. refusal k < 2 → True test k → ⊥) (λ _. not NoPort port) (λ lt. absurd (omega arith)) (λ lt. absurd (omega arith)) (λ lt. absurd (omega arith)) }))
    by_address port (inr e) = by_busy port e (cases_Bool (test Busy))

    by_port : True test NoPort ⊎ (test NoPort ≡ false) → P (judge test r)
    by_port (inl h) =
        rw h (stop NoPort (record { holds = h; first = each (λ k. refusal k < 1 → True test k → ⊥) (λ lt. absurd (omega arith)) (λ lt. absurd (omega arith)) (λ lt. absurd (omega arith)) (λ lt. absurd (omega arith)) }))
    by_port (inr e) = by_address e (cases_Bool (test NoAddress))

-- whether the rule of each refusal refuses a call
abbrev pub tests : {W : Type 0} → Sizes → State W → Call W → Refusal → Bool
tests sz s (Read p a) NoPort = leb sz.reads p
tests sz s (Read p a) NoAddress = leb sz.depth a
tests sz s (Read p a) Busy = s.used p
tests sz s (Read p a) Held = false
tests sz s (Write p a w) NoPort = leb sz.writes p
tests sz s (Write p a w) NoAddress = leb sz.depth a
tests sz s (Write p a w) Busy = busy (s.port p)
tests sz s (Write p a w) Held = s.held a
tests sz s Edge n = false

-- what a call answers where no rule refuses it
abbrev pub reply : {W : Type 0} → State W → Call W → Answer W
reply s (Read p a) = Word (s.word a)
reply s (Write p a w) = Accepted
reply s Edge = Edged

-- what a call answers
abbrev pub answer : {W : Type 0} → Sizes → State W → Call W → Answer W
answer sz s c = judge (tests sz s c) (reply s c)

-- each call of a run was answered so
abbrev pub Fits : {W : Type 0} → Sizes → W → Run W → Type 0
Fits sz z configured = Unit {0}
Fits sz z (t ▹ (c ⇒ r)) = Fits sz z t × (r ≡ answer sz (after z t) c)
