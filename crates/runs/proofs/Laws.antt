-- The rules of a run, call by call, and at each of its calls: one says what the other does.
use Rattle.std.proofs.Common.{◌≡◌, ℕ, ◌↔◌, refl, arith}
use Rattle.memory.specs.declared.refusal.Refusal.{Refusal}
use Rattle.runs.specs.declared.call.Answer.{Answer}
use Rattle.runs.specs.declared.call.Answer.TheVariants.{Word, Accepted, Edged, Refused}
use Rattle.runs.specs.declared.call.Call.{Call}
use Rattle.runs.specs.declared.call.Call.TheVariants.{Read, Write, Edge}
use Rattle.runs.specs.Runs.{Entry, ◌⇒◌, Run, configured, ◌▹◌, At, Sizes, Faulty, First, Began, Suits, Obeys}
use Rattle.runs.specs.Alike.{NotRefused}

-- no rule refuses
abbrev pub NoFault : (Refusal → Type 0) → Type 0
NoFault faulty = (n : Refusal) → faulty n → ⊥

-- the answer that the rules give a call after a run
pub data Answered {W : Type 0} (zero : W) (s : Sizes) (t : Run W) : Call W → Answer W → Type 0 where
  refused : {c : Call W} {n : Refusal} → First (Faulty s t c) n → Answered zero s t c (Refused n)
  read : {p a : ℕ} {w : W} → NoFault (Faulty s t (Read p a)) → At zero t a w → Answered zero s t (Read p a) (Word w)
  written : {p a : ℕ} {w : W} → NoFault (Faulty s t (Write p a w)) → Answered zero s t (Write p a w) Accepted
  edged : Answered zero s t Edge Edged

-- every call of the run got the answer that the rules give it, judged on the calls before it
pub data Lawful {W : Type 0} (zero : W) (s : Sizes) : Run W → Type 0 where
  start : Lawful zero s configured
  more : {t : Run W} {c : Call W} {r : Answer W} → Lawful zero s t → Answered zero s t c r → Lawful zero s (t ▹ (c ⇒ r))

-- the answers that are no refusals
pub word_stands : {W : Type 0} {w : W} → NotRefused (Word w)
word_stands n e = let clash : ◌≡◌ {A = ℕ} 0 1 = cc in omega arith

pub accepted_stands : {W : Type 0} → NotRefused {W = W} Accepted
accepted_stands n e = let clash : ◌≡◌ {A = ℕ} 0 1 = cc in omega arith

pub edged_stands : {W : Type 0} → NotRefused {W = W} Edged
edged_stands n e = let clash : ◌≡◌ {A = ℕ} 0 1 = cc in omega arith

-- from the rules call by call
began : {W : Type 0} {zero : W} {s : Sizes} {t before : Run W} {c : Call W} {r : Answer W} → Lawful zero s t → Began (before ▹ (c ⇒ r)) t → Answered zero s before c r
began Lawful.start b = elim b [ ]
began (Lawful.more l a) Began.whole = a
began (Lawful.more l a) (Began.part b) = began l b

suits : {W : Type 0} {zero : W} {s : Sizes} {t : Run W} {c : Call W} {r : Answer W} → Answered zero s t c r → Suits c r
suits (Answered.refused {c = Read p a} f) = Suits.unread
suits (Answered.refused {c = Write p a w} f) = Suits.unwritten
suits (Answered.refused {c = Edge} f) = absurd f.holds
suits (Answered.read f h) = Suits.read
suits (Answered.written f) = Suits.written
suits Answered.edged = Suits.edged

gives : {W : Type 0} {zero : W} {s : Sizes} {t : Run W} {p a : ℕ} {w : W} → Answered zero s t (Read p a) (Word w) → At zero t a w
gives (Answered.read f h) = h

refuses : {W : Type 0} {zero : W} {s : Sizes} {t : Run W} {c : Call W} {r : Answer W} → Answered zero s t c r → ((n : Refusal) × (r ≡ Refused n)) ↔ ((n : Refusal) × Faulty s t c n)
refuses (Answered.refused {n} f) = (λ _. (n, f.holds), λ _. (n, refl))
refuses (Answered.read f h) = (λ u. absurd (word_stands u.0 u.1), λ u. absurd (f u.0 u.1))
refuses (Answered.written f) = (λ u. absurd (accepted_stands u.0 u.1), λ u. absurd (f u.0 u.1))
refuses Answered.edged = (λ u. absurd (edged_stands u.0 u.1), λ u. absurd u.1)

firsts : {W : Type 0} {zero : W} {s : Sizes} {t : Run W} {c : Call W} {n : Refusal} → Answered zero s t c (Refused n) → First (Faulty s t c) n
firsts (Answered.refused f) = f

pub obeys : {W : Type 0} {zero : W} {s : Sizes} {t : Run W} → Lawful zero s t → Obeys zero s t
obeys l =
    record {
      suits = λ before c r b. suits (began l b);
      reads = λ before p a w b. gives (began l b);
      refused = λ before c r b. refuses (began l b);
      first = λ before c n b. firsts (began l b);
    }

-- and back
shorter : {W : Type 0} {zero : W} {s : Sizes} {t : Run W} {x : Entry W} → Obeys zero s (t ▹ x) → Obeys zero s t
shorter o =
    record {
      suits = λ before c r b. o.suits before c r (Began.part b);
      reads = λ before p a w b. o.reads before p a w (Began.part b);
      refused = λ before c r b. o.refused before c r (Began.part b);
      first = λ before c n b. o.first before c n (Began.part b);
    }

last : {W : Type 0} {zero : W} {s : Sizes} {t : Run W} {c : Call W} {r : Answer W} → Suits c r → Obeys zero s (t ▹ (c ⇒ r)) → Answered zero s t c r
last Suits.read o =
    Answered.read (λ n f. let u = (o.refused _ _ _ Began.whole).1 (n, f) in word_stands u.0 u.1) (o.reads _ _ _ _ Began.whole)
last Suits.written o = Answered.written (λ n f. let u = (o.refused _ _ _ Began.whole).1 (n, f) in accepted_stands u.0 u.1)
last Suits.edged o = Answered.edged
last Suits.unread o = Answered.refused (o.first _ _ _ Began.whole)
last Suits.unwritten o = Answered.refused (o.first _ _ _ Began.whole)

pub lawful : {W : Type 0} (zero : W) (s : Sizes) (t : Run W) → Obeys zero s t → Lawful zero s t
lawful zero s configured o = Lawful.start
lawful zero s (t ▹ (c ⇒ r)) o = Lawful.more (lawful zero s t (shorter o)) (last (o.suits t c r Began.whole) o)
