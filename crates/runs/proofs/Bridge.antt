-- The relations of a run, and what is computed of it: one says what the other does.
use Rattle.std.proofs.Common.{◌≡◌, ℕ, Bool, true, false, cond, eqb, sym, refl, ap, ◌∙◌, subst, inl, inr, arith}
use Rattle.std.proofs.lemmas.Bool.{false≢true, both_ways, eq-eqb, eqb-true, ne_eqb, leb-true, le-leb, or_cases, or_left, or_right, cond-true, cond-false, cases_eq, cases_lt, cases_Bool}
use Rattle.memory.specs.declared.refusal.Refusal.{Refusal}
use Rattle.memory.specs.declared.refusal.Refusal.TheVariants.{NoPort, NoAddress, Busy, Held}
use Rattle.memory.specs.Meaning.{Port, free, holding}
use Rattle.memory.specs.Refusals.{refusal}
use Rattle.runs.specs.declared.call.Answer.{Answer}
use Rattle.runs.specs.declared.call.Answer.TheVariants.{Word, Accepted, Refused}
use Rattle.runs.specs.declared.call.Call.{Call}
use Rattle.runs.specs.declared.call.Call.TheVariants.{Read, Write, Edge}
use Rattle.runs.specs.Runs.{Entry, ◌⇒◌, Run, configured, ◌▹◌, Inside, reads, writes, Since, Before, Latest, At, Put, put, Used, Holding, Sizes, Faulty, First}
use Rattle.runs.proofs.Laws.{NoFault, Answered, Lawful}
use Rattle.runs.proofs.State.{busy, State, step, after, Kind, reading, writing, clocking, idle, kind, inside, True, AllFalse, judged, tests, reply, answer, Fits}

-- a read port is used
pub since_used : {W : Type 0} (z : W) {p a : ℕ} {w : W} {t : Run W} → Since (Read p a ⇒ Word w) t → (after z t).used p ≡ true
since_used z {p} (Since.latest {t}) = or_left (eqb p p) ((after z t).used p) (eq-eqb p p refl)
since_used z {p} (Since.earlier {t} i s) =
    let h : (after z t).used p ≡ true = since_used z s in
    inside (λ x. x.used p ≡ true) (after z t) i h (λ q. or_right (eqb p q) ((after z t).used p) h) (λ _ _ _. h)

used_on : {W : Type 0} {t : Run W} {y : Entry W} {p : ℕ} → Inside y → Used t p → Used (t ▹ y) p
used_on i u = (u.0, u.1, Since.earlier i u.2)

used_more : {W : Type 0} (z : W) (t : Run W) {y : Entry W} (p : ℕ) → Kind y → ((after z t).used p ≡ true → Used t p) → (step (after z t) y).used p ≡ true → Used (t ▹ y) p
used_more {W} z t p (reading {p = q} {a} {w}) ih h =
    elim (or_cases (eqb p q) ((after z t).used p) h) [
      | inl e ↦ let g : q ≡ p = sym (eqb-true p q e) in subst (λ k. Used (t ▹ (Read q a ⇒ Word w)) k) g (a, w, Since.latest)
      | inr e ↦ used_on reads (ih e)
    ]
used_more z t p writing ih h = used_on writes (ih h)
used_more z t p clocking ih h = absurd (false≢true h)
used_more z t p (idle i same _) ih h = used_on i (ih (subst (λ s. s.used p ≡ true) (same (after z t)) h))

pub used_since : {W : Type 0} (z : W) (t : Run W) (p : ℕ) → (after z t).used p ≡ true → Used t p
used_since z configured p h = absurd (false≢true h)
used_since z (t ▹ y) p h = used_more z t p (kind y) (used_since z t p) h

-- an address is held
pub since_held : {W : Type 0} (z : W) {p a : ℕ} {w : W} {t : Run W} → Holding t p a w → (after z t).held a ≡ true
since_held z {a = a} (Since.latest {t}) = or_left (eqb a a) ((after z t).held a) (eq-eqb a a refl)
since_held z {a = a} (Since.earlier {t} i s) =
    let h : (after z t).held a ≡ true = since_held z s in
    inside (λ x. x.held a ≡ true) (after z t) i h (λ _. h) (λ _ b _. or_right (eqb a b) ((after z t).held a) h)

abbrev Waiting : {W : Type 0} → Run W → ℕ → Type 0
Waiting {W} t a = (p : ℕ) × (w : W) × Holding t p a w

held_on : {W : Type 0} {t : Run W} {y : Entry W} {a : ℕ} → Inside y → Waiting t a → Waiting (t ▹ y) a
held_on i u = (u.0, u.1, Since.earlier i u.2)

held_more : {W : Type 0} (z : W) (t : Run W) {y : Entry W} (a : ℕ) → Kind y → ((after z t).held a ≡ true → Waiting t a) → (step (after z t) y).held a ≡ true → Waiting (t ▹ y) a
held_more z t a reading ih h = held_on reads (ih h)
held_more z t a (writing {p} {a = b} {w}) ih h =
    elim (or_cases (eqb a b) ((after z t).held a) h) [
      | inl e ↦ let g : b ≡ a = sym (eqb-true a b e) in subst (λ k. Waiting (t ▹ (Write p b w ⇒ Accepted)) k) g (p, w, Since.latest)
      | inr e ↦ held_on writes (ih e)
    ]
held_more z t a clocking ih h = absurd (false≢true h)
held_more z t a (idle i same _) ih h = held_on i (ih (subst (λ s. s.held a ≡ true) (same (after z t)) h))

pub held_since : {W : Type 0} (z : W) (t : Run W) (a : ℕ) → (after z t).held a ≡ true → Waiting t a
held_since z configured a h = absurd (false≢true h)
held_since z (t ▹ y) a h = held_more z t a (kind y) (held_since z t a) h

-- a write port holds something
busy_cond : {W : Type 0} (b : Bool) (a : ℕ) (w : W) (x : Port W) → busy x ≡ true → busy (cond b (holding a w) x) ≡ true
busy_cond true a w x h = refl
busy_cond false a w x h = h

pub since_busy : {W : Type 0} (z : W) {p a : ℕ} {w : W} {t : Run W} → Holding t p a w → busy ((after z t).port p) ≡ true
since_busy z {p} {a} {w} (Since.latest {t}) =
    ap busy (cond-true (eqb p p) (holding a w) ((after z t).port p) (eq-eqb p p refl))
since_busy z {p} (Since.earlier {t} i s) =
    let h : busy ((after z t).port p) ≡ true = since_busy z s in
    inside (λ x. busy (x.port p) ≡ true) (after z t) i h (λ _. h) (λ q b v. busy_cond (eqb p q) b v ((after z t).port p) h)

pub free_holding : {W : Type 0} {a : ℕ} {w : W} → ◌≡◌ {A = Port W} free (holding a w) → ⊥
free_holding e = false≢true (ap busy e)

port_more : {W : Type 0} (z : W) (t : Run W) {y : Entry W} (p a : ℕ) (w : W) → Kind y → ((after z t).port p ≡ holding a w → Holding t p a w) → (step (after z t) y).port p ≡ holding a w → Holding (t ▹ y) p a w
port_more z t p a w reading ih h = Since.earlier reads (ih h)
port_more z t p a w (writing {p = q} {a = b} {w = v}) ih h =
    elim (cases_Bool (eqb p q)) [
      | inl e ↦
          let eq : p ≡ q = eqb-true p q e in
          let eh : holding b v ≡ holding a w = sym (cond-true (eqb p q) (holding b v) ((after z t).port p) e) ∙ h in
          let ea : a ≡ b = cc in
          let ew : w ≡ v = cc in
          rw (eq, ea, ew) Since.latest
      | inr e ↦ Since.earlier writes (ih (sym (cond-false (eqb p q) (holding b v) ((after z t).port p) e) ∙ h))
    ]
port_more z t p a w clocking ih h = absurd (free_holding h)
port_more z t p a w (idle i same _) ih h = Since.earlier i (ih (subst (λ s. s.port p ≡ holding a w) (same (after z t)) h))

pub port_since : {W : Type 0} (z : W) (t : Run W) (p a : ℕ) (w : W) → (after z t).port p ≡ holding a w → Holding t p a w
port_since z configured p a w h = absurd (free_holding h)
port_since z (t ▹ y) p a w h = port_more z t p a w (kind y) (port_since z t p a w) h

-- the words
coming_kept : {W : Type 0} (s : State W) {y : Entry W} (a : ℕ) → Kind y → ((v : W) → Put a y v → ⊥) → (step s y).coming a ≡ s.coming a
coming_kept s a reading n = refl
coming_kept s a (writing {p} {a = b} {w}) n =
    cond-false (eqb a b) w (s.coming a) (ne_eqb a b (λ e. n w (subst (λ k. Put k (Write p b w ⇒ Accepted) w) (sym e) put)))
coming_kept s a clocking n = refl
coming_kept s a (idle i same _) n = ap (λ x. x.coming a) (same s)

put_coming : {W : Type 0} (s : State W) {y : Entry W} {a : ℕ} {w : W} → Put a y w → (step s y).coming a ≡ w
put_coming s {a = a} {w} put = cond-true (eqb a a) w (s.coming a) (eq-eqb a a refl)

pub latest_coming : {W : Type 0} {z : W} {a : ℕ} {t : Run W} {w : W} → Latest z a t w → (after z t).coming a ≡ w
latest_coming Latest.none = refl
latest_coming {z = z} (Latest.latest {t} e) = put_coming (after z t) e
latest_coming {z = z} {a} (Latest.earlier {t} {y} n l) = coming_kept (after z t) a (kind y) n ∙ latest_coming l

latest_more : {W : Type 0} (z : W) (t : Run W) {y : Entry W} (a : ℕ) → Kind y → Latest z a t ((after z t).coming a) → Latest z a (t ▹ y) ((step (after z t) y).coming a)
latest_more z t a reading l = Latest.earlier (λ v e. elim e [ ]) l
latest_more z t a (writing {p} {a = b} {w}) l =
    elim (cases_eq a b) [
      | inl e ↦
          let g : cond (eqb a b) w ((after z t).coming a) ≡ w = cond-true (eqb a b) w ((after z t).coming a) (eq-eqb a b e) in
          rw g (Latest.latest (subst (λ k. Put k (Write p b w ⇒ Accepted) w) (sym e) put))
      | inr n ↦
          let g : cond (eqb a b) w ((after z t).coming a) ≡ (after z t).coming a = cond-false (eqb a b) w ((after z t).coming a) (ne_eqb a b n) in
          rw g (Latest.earlier (λ v e. n (put_address e)) l)
    ]
  where
    put_address : {W : Type 0} {p a b : ℕ} {w v : W} → Put a (Write p b w ⇒ Accepted) v → a ≡ b
    put_address put = refl
latest_more z t a clocking l = Latest.earlier (λ v e. elim e [ ]) l
latest_more z t a (idle {y} i same n) l = subst (λ s. Latest z a (t ▹ y) (s.coming a)) (sym (same (after z t))) (Latest.earlier (n a) l)

pub coming_latest : {W : Type 0} (z : W) (t : Run W) (a : ℕ) → Latest z a t ((after z t).coming a)
coming_latest z configured a = Latest.none
coming_latest z (t ▹ y) a = latest_more z t a (kind y) (coming_latest z t a)

pub before_word : {W : Type 0} (z : W) (a : ℕ) {t s : Run W} → Before t s → (after z t).word a ≡ (after z s).coming a
before_word z a Before.never = refl
before_word z a Before.now = refl
before_word z a (Before.earlier {t} {s} i b) =
    let h : (after z t).word a ≡ (after z s).coming a = before_word z a b in
    inside (λ x. x.word a ≡ (after z s).coming a) (after z t) i h (λ _. h) (λ _ _ _. h)

before_more : {W : Type 0} (t : Run W) {y : Entry W} → Kind y → (s : Run W) × Before t s → (s : Run W) × Before (t ▹ y) s
before_more t reading b = (b.0, Before.earlier reads b.1)
before_more t writing b = (b.0, Before.earlier writes b.1)
before_more t clocking b = (t, Before.now)
before_more t (idle i _ _) b = (b.0, Before.earlier i b.1)

before : {W : Type 0} (t : Run W) → (s : Run W) × Before t s
before configured = (configured, Before.never)
before (t ▹ y) = before_more t (kind y) (before t)

pub at_word : {W : Type 0} {z : W} {t : Run W} {a : ℕ} {w : W} → At z t a w → (after z t).word a ≡ w
at_word {z = z} {a = a} h = before_word z a h.edge ∙ latest_coming h.word

pub word_at : {W : Type 0} (z : W) (t : Run W) (a : ℕ) → At z t a ((after z t).word a)
word_at z t a =
    let b = before t in
    record {
      before = b.0;
      edge = b.1;
      word = subst (Latest z a b.0) (sym (before_word z a b.1)) (coming_latest z b.0 a);
    }

-- the first fault of a call is one
by_number : ℕ → Refusal
by_number n = cond (eqb n 1) NoPort (cond (eqb n 2) NoAddress (cond (eqb n 3) Busy Held))

numbered : (n : Refusal) → by_number (refusal n) ≡ n
unfolding by_number
numbered NoPort = refl
numbered NoAddress = refl
numbered Busy = refl
numbered Held = refl

first_one : (faulty : Refusal → Type 0) (n k : Refusal) → First faulty n → First faulty k → n ≡ k
first_one faulty n k f g =
    elim (cases_lt (refusal n) (refusal k)) [
      | inl lt ↦ absurd (g.first n lt f.holds)
      | inr le ↦ elim (cases_lt (refusal k) (refusal n)) [
        | inl lt ↦ absurd (f.first k lt g.holds)
        | inr ge ↦ let e : refusal n ≡ refusal k = omega arith in sym (numbered n) ∙ ap by_number e ∙ numbered k
      ]
    ]

-- a port that is busy holds something
busy_holds : {W : Type 0} (x : Port W) → busy x ≡ true → (a : ℕ) × (w : W) × (x ≡ holding a w)
busy_holds free e = absurd (false≢true e)
busy_holds (holding a w) e = (a, w, refl)

module _ {W : Type 0} (z : W) (sz : Sizes) (t : Run W) where
  -- where a rule refuses a call, its test is true
  tested : (c : Call W) (n : Refusal) → Faulty sz t c n → True (tests sz (after z t) c) n
  tested (Read p a) NoPort h = le-leb sz.reads p h
  tested (Read p a) NoAddress h = le-leb sz.depth a h
  tested (Read p a) Busy h = since_used z h.2
  tested (Read p a) Held h = absurd h
  tested (Write p a w) NoPort h = le-leb sz.writes p h
  tested (Write p a w) NoAddress h = le-leb sz.depth a h
  tested (Write p a w) Busy h = since_busy z h.2
  tested (Write p a w) Held h = since_held z h.3
  tested Edge n h = absurd h

  -- where a test is the first that is true, its rule refuses the call
  faulty : (c : Call W) (n : Refusal) → First (True (tests sz (after z t) c)) n → Faulty sz t c n
  faulty (Read p a) NoPort f = leb-true sz.reads p f.holds
  faulty (Read p a) NoAddress f = leb-true sz.depth a f.holds
  faulty (Read p a) Busy f = used_since z t p f.holds
  faulty (Read p a) Held f = absurd (false≢true f.holds)
  faulty (Write p a w) NoPort f = leb-true sz.writes p f.holds
  faulty (Write p a w) NoAddress f = leb-true sz.depth a f.holds
  faulty (Write p a w) Busy f =
      let h = busy_holds ((after z t).port p) f.holds in (h.0, h.1, port_since z t p h.0 h.1 h.2)
  faulty (Write p a w) Held f =
      let h = held_since z t a f.holds in
      (h.0, h.1, (λ e. f.first Busy (omega arith) (since_busy z (subst (λ q. Holding t q a h.1) e h.2))), h.2)
  faulty Edge n f = absurd (false≢true f.holds)

  -- so the tests judge as the rules do
  first_faulty : (c : Call W) (n : Refusal) → First (True (tests sz (after z t) c)) n → First (Faulty sz t c) n
  first_faulty c n f = record { holds = faulty c n f; first = λ k lt h. f.first k lt (tested c k h) }

  no_fault : (c : Call W) → AllFalse (tests sz (after z t) c) → NoFault (Faulty sz t c)
  no_fault c e n h = both_ways (tests sz (after z t) c n) (e n) (tested c n h)

  replied : (c : Call W) → NoFault (Faulty sz t c) → Answered z sz t c (reply (after z t) c)
  replied (Read p a) f = Answered.read f (word_at z t a)
  replied (Write p a w) f = Answered.written f
  replied Edge f = Answered.edged

  pub is_answered : (c : Call W) → Answered z sz t c (answer sz (after z t) c)
  is_answered c =
      judged (Answered z sz t c) (tests sz (after z t) c) (reply (after z t) c) (λ n f. Answered.refused (first_faulty c n f)) (λ e. replied c (no_fault c e))

  -- the rules give a call one answer
  answered_one : {c : Call W} {r u : Answer W} → Answered z sz t c r → Answered z sz t c u → r ≡ u
  answered_one (Answered.refused f) (Answered.refused g) = ap Refused (first_one _ _ _ f g)
  answered_one (Answered.refused f) (Answered.read g h) = absurd (g _ f.holds)
  answered_one (Answered.refused f) (Answered.written g) = absurd (g _ f.holds)
  answered_one (Answered.refused f) Answered.edged = absurd f.holds
  answered_one (Answered.read f h) (Answered.refused g) = absurd (f _ g.holds)
  answered_one (Answered.read f h) (Answered.read g k) = ap Word (sym (at_word h) ∙ at_word k)
  answered_one (Answered.written f) (Answered.refused g) = absurd (f _ g.holds)
  answered_one (Answered.written f) (Answered.written g) = refl
  answered_one Answered.edged (Answered.refused g) = absurd g.holds
  answered_one Answered.edged Answered.edged = refl

pub lawful_fits : {W : Type 0} {z : W} {sz : Sizes} {t : Run W} → Lawful z sz t → Fits sz z t
lawful_fits Lawful.start = tt
lawful_fits {z = z} {sz} (Lawful.more {t} {c} l a) = (lawful_fits l, answered_one z sz t a (is_answered z sz t c))

pub fits_lawful : {W : Type 0} (z : W) (sz : Sizes) (t : Run W) → Fits sz z t → Lawful z sz t
fits_lawful z sz configured f = Lawful.start
fits_lawful z sz (t ▹ (c ⇒ r)) f =
    Lawful.more (fits_lawful z sz t f.0) (subst (Answered z sz t c) (sym f.1) (is_answered z sz t c))
