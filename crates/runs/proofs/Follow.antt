-- A memory follows what is computed of a run, call by call.
use Rattle.std.proofs.Common.{◌≡◌, ℕ, ◌<◌, true, false, ◌||◌, eqb, leb, ◌⊎◌, Some, Ok, Err, sym, refl, ap, ◌∙◌, subst, inl, inr, arith}
use Rattle.std.proofs.lemmas.Bool.{false≢true, both_ways, eq-eqb, eqb-true, ne_eqb, le-leb, lt-leb, or_cases, or_parts, or_left, or_right, cond-true, cond-false, cases_eq, cases_Bool}
use Rattle.memory.specs.declared.refusal.Refusal.{Refusal}
use Rattle.memory.specs.declared.refusal.Refusal.TheVariants.{NoPort, NoAddress, Busy, Held}
use Rattle.memory.specs.Meaning.{Port, free, holding, address, Meaning, SameShape}
use Rattle.memory.specs.Calls.{Waiting, Idle, MayRead, MayWrite, Same, Read, Write, Edged as Clocked}
use Rattle.runs.specs.declared.call.Answer.{Answer}
use Rattle.runs.specs.declared.call.Answer.TheVariants.{Word, Accepted, Edged, Refused}
use Rattle.runs.specs.declared.call.Call.{Call}
use Rattle.runs.specs.declared.call.Call.TheVariants.{Read as read, Write as write, Edge as edge}
use Rattle.runs.specs.Tries.{Tried}
use Rattle.runs.specs.Runs.{Entry, ◌⇒◌, Run, ◌▹◌, Inside, Sizes, sizes, Since, Holding, At, Stands}
use Rattle.runs.proofs.Laws.{accepted_stands}
use Rattle.runs.proofs.State.{busy, State, took, filled, clocked, step, after, Kind, reading, writing, clocking, idle, kind, answer, Fits}
use Rattle.runs.proofs.Bridge.{free_holding, used_since, since_used, port_since, word_at}
use Rattle.runs.proofs.Places.{ready}

-- a memory is in the computed state
pub record Shows {W : Type 0} (m : Meaning W) (s : State W) : Type 0 where
  pub words : (a : ℕ) → a < m.depth → m.word a ≡ s.word a
  pub used : (p : ℕ) → p < m.reads → m.used p ≡ s.used p
  pub ports : (p : ℕ) → p < m.writes → m.port p ≡ s.port p

-- how the parts of a computed state go together after a run by the rules, where there are n write ports
pub record Sound {W : Type 0} (n : ℕ) (s : State W) : Type 0 where
  pub lands : (q a : ℕ) (w : W) → s.port q ≡ holding a w → s.coming a ≡ w
  pub within : (q a : ℕ) (w : W) → s.port q ≡ holding a w → s.held a ≡ true
  pub held : (a : ℕ) → s.held a ≡ true → (q : ℕ) × (w : W) × (q < n) × (s.port q ≡ holding a w)
  pub stays : (a : ℕ) → s.held a ≡ false → s.coming a ≡ s.word a

sound_clocked : {W : Type 0} (n : ℕ) (s : State W) → Sound n (clocked s)
sound_clocked n s =
    record {
      lands = λ q a w e. absurd (free_holding e);
      within = λ q a w e. absurd (free_holding e);
      held = λ a e. absurd (false≢true e);
      stays = λ a e. refl;
    }

sound_took : {W : Type 0} (n : ℕ) (s : State W) (p : ℕ) → Sound n s → Sound n (took s p)
sound_took n s p h = record { lands = h.lands; within = h.within; held = h.held; stays = h.stays }

module _ {W : Type 0} (n : ℕ) (s : State W) (h : Sound n s) (p a : ℕ) (w : W) (lt : p < n) (idle_port : busy (s.port p) ≡ false) (idle_address : s.held a ≡ false) where
  -- a port of the filled state that holds something is the filled one, or another that held it before, at another address
  filled_port : (q b : ℕ) (v : W) → (filled s p a w).port q ≡ holding b v → ((b ≡ a) × (v ≡ w)) ⊎ ((s.port q ≡ holding b v) × (eqb b a ≡ false))
  filled_port q b v e =
      elim (cases_Bool (eqb q p)) [
        | inl y ↦
            let here : holding a w ≡ holding b v = sym (cond-true (eqb q p) (holding a w) (s.port q) y) ∙ e in
            let address : b ≡ a = cc in
            let word : v ≡ w = cc in
            inl (address, word)
        | inr y ↦
            let there : s.port q ≡ holding b v = sym (cond-false (eqb q p) (holding a w) (s.port q) y) ∙ e in
            inr (there, ne_eqb b a (λ k. both_ways (s.held a) idle_address (subst (λ j. s.held j ≡ true) k (h.within q b v there))))
      ]

  sound_filled : Sound n (filled s p a w)
  sound_filled =
      record {
        lands = λ q b v e.
            elim (filled_port q b v e) [
              | inl y ↦ cond-true (eqb b a) w (s.coming b) (eq-eqb b a y.0) ∙ sym y.1
              | inr y ↦ cond-false (eqb b a) w (s.coming b) y.1 ∙ h.lands q b v y.0
            ];
        within = λ q b v e.
            elim (filled_port q b v e) [
              | inl y ↦ or_left (eqb b a) (s.held b) (eq-eqb b a y.0)
              | inr y ↦ or_right (eqb b a) (s.held b) (h.within q b v y.0)
            ];
        held = λ b e.
            elim (or_cases (eqb b a) (s.held b) e) [
              | inl y ↦
                  (p, w, lt, cond-true (eqb p p) (holding a w) (s.port p) (eq-eqb p p refl) ∙ ap (λ k. holding k w) (sym (eqb-true b a y)))
              | inr y ↦
                  let o = h.held b y in
                  let other : eqb o.0 p ≡ false = ne_eqb o.0 p (λ k. both_ways (busy (s.port p)) idle_port (ap busy (subst (λ j. s.port j ≡ holding b o.1) k o.3))) in
                  (o.0, o.1, o.2, cond-false (eqb o.0 p) (holding a w) (s.port o.0) other ∙ o.3)
            ];
        stays = λ b e.
            let o = or_parts (eqb b a) (s.held b) e in
            cond-false (eqb b a) w (s.coming b) o.0 ∙ h.stays b o.1;
      }

-- a port by the address that it holds
holding_at : {W : Type 0} (x : Port W) (a : ℕ) → address x ≡ Some a → (w : W) × (x ≡ holding a w)
holding_at free a e = let clash : ◌≡◌ {A = ℕ} 0 1 = cc in absurd (omega arith)
holding_at (holding b w) a e = let k : b ≡ a = cc in (w, ap (λ j. holding j w) k)

module _ {W : Type 0} (m : Meaning W) (s : State W) (sees : Shows m s) (sound : Sound m.writes s) where
  -- the addresses that wait are those that are held
  waiting_held : (a : ℕ) → Waiting m a → s.held a ≡ true
  waiting_held a u =
      let o = holding_at (m.port u.0) a u.2 in
      sound.within u.0 a o.0 (sym (sees.ports u.0 u.1) ∙ o.1)

  held_waiting : (a : ℕ) → s.held a ≡ true → Waiting m a
  held_waiting a e = let o = sound.held a e in (o.0, o.2, ap address (sees.ports o.0 o.2 ∙ o.3))

  idle_held : (a : ℕ) → Idle m a → s.held a ≡ false
  idle_held a h =
      elim (cases_Bool (s.held a)) [ inl y ↦ let u = held_waiting a y in absurd (h u.0 u.1 u.2) | inr y ↦ y ]

  held_idle : (a : ℕ) → s.held a ≡ false → Idle m a
  held_idle a y q lt e = both_ways (s.held a) y (waiting_held a (q, lt, e))

  -- a refused call leaves the state
  same_shows : {m' : Meaning W} → Same m m' → Shows m' s
  same_shows k =
      let shape = k.words.shape in
      record {
        words = λ a lt. let l : a < m.depth = omega arith in k.words.words a l ∙ sees.words a l;
        used = λ p lt. let l : p < m.reads = omega arith in k.used p l ∙ sees.used p l;
        ports = λ p lt. let l : p < m.writes = omega arith in k.ports p l ∙ sees.ports p l;
      }

  -- what follows from one call: its answer is the computed one, and so is the state of the memory then
  abbrev Goal : Meaning W → Call W → Answer W → Type 0
  Goal m' c r = (r ≡ answer (sizes m) s c) × Shows m' (step s (c ⇒ r)) × SameShape m m' × Sound m.writes (step s (c ⇒ r))

  read_goal : (m' : Meaning W) (p a : ℕ) (w : W) → Read m p a (Ok w) m' → Goal m' (read p a) (Word w)
  read_goal m' p a w k =
      let lt = k.0.0 in
      let la = k.0.1 in
      let port : leb m.reads p ≡ false = lt-leb m.reads p lt in
      let address : leb m.depth a ≡ false = lt-leb m.depth a la in
      let unused : s.used p ≡ false = sym (sees.used p lt) ∙ k.0.2 in
      let ok = k.2 in
      let shape = ok.words.shape in (
        rw (port, address, unused) (ap Word (k.1 ∙ sees.words a la)),
        record {
          words = λ b l. let l' : b < m.depth = omega arith in ok.words.words b l' ∙ sees.words b l';
          used = λ q l.
              let l' : q < m.reads = omega arith in
              elim (cases_eq q p) [
                | inl e ↦ ap m'.used e ∙ ok.here ∙ sym (or_left (eqb q p) (s.used q) (eq-eqb q p e))
                | inr n ↦ ok.used q l' n ∙ sees.used q l' ∙ ap (λ b. b || s.used q) (sym (ne_eqb q p n))
              ];
          ports = λ q l. let l' : q < m.writes = omega arith in ok.ports q l' ∙ sees.ports q l';
        },
        shape,
        sound_took m.writes s p sound,
      )

  unread_goal : (m' : Meaning W) (p a : ℕ) (n : Refusal) → Read m p a (Err n) m' → Goal m' (read p a) (Refused n)
  unread_goal m' p a n k = (answer_is n k.0, same_shows k.1, k.1.words.shape, sound)
    where
      answer_is : (n : Refusal) → MayRead m p a (Err n) → Refused n ≡ answer (sizes m) s (read p a)
      answer_is NoPort h = rw (le-leb m.reads p h)
      answer_is NoAddress h = rw (lt-leb m.reads p h.0, le-leb m.depth a h.1)
      answer_is Busy h = rw (lt-leb m.reads p h.0, lt-leb m.depth a h.1, sym (sees.used p h.0) ∙ h.2)
      answer_is Held h = absurd h

  write_goal : (m' : Meaning W) (p a : ℕ) (w : W) → Write m p a w (Ok tt) m' → Goal m' (write p a w) Accepted
  write_goal m' p a w k =
      let lt = k.0.0 in
      let port : leb m.writes p ≡ false = lt-leb m.writes p lt in
      let address : leb m.depth a ≡ false = lt-leb m.depth a k.0.1 in
      let unused : busy (s.port p) ≡ false = ap busy (sym (sees.ports p lt) ∙ k.0.2) in
      let unheld : s.held a ≡ false = idle_held a k.0.3 in
      let ok = k.1 in
      let shape = ok.words.shape in (
        rw (port, address, unused, unheld) refl,
        record {
          words = λ b l. let l' : b < m.depth = omega arith in ok.words.words b l' ∙ sees.words b l';
          used = λ q l. let l' : q < m.reads = omega arith in ok.used q l' ∙ sees.used q l';
          ports = λ q l.
              let l' : q < m.writes = omega arith in
              elim (cases_eq q p) [
                | inl e ↦ ap m'.port e ∙ ok.here ∙ sym (cond-true (eqb q p) (holding a w) (s.port q) (eq-eqb q p e))
                | inr n ↦
                    ok.ports q l' n ∙ sees.ports q l' ∙ sym (cond-false (eqb q p) (holding a w) (s.port q) (ne_eqb q p n))
              ];
        },
        shape,
        sound_filled m.writes s sound p a w lt unused unheld,
      )

  unwritten_goal : (m' : Meaning W) (p a : ℕ) (w : W) (n : Refusal) → Write m p a w (Err n) m' → Goal m' (write p a w) (Refused n)
  unwritten_goal m' p a w n k = (answer_is n k.0, same_shows k.1, k.1.words.shape, sound)
    where
      answer_is : (n : Refusal) → MayWrite m p a (Err n) → Refused n ≡ answer (sizes m) s (write p a w)
      answer_is NoPort h = rw (le-leb m.writes p h)
      answer_is NoAddress h = rw (lt-leb m.writes p h.0, le-leb m.depth a h.1)
      answer_is Busy h =
          let o = holding_at (m.port p) h.2.0 h.2.1 in
          let used : busy (s.port p) ≡ true = ap busy (sym (sees.ports p h.0) ∙ o.1) in
          rw (lt-leb m.writes p h.0, lt-leb m.depth a h.1, used)
      answer_is Held h =
          let unused : busy (s.port p) ≡ false = ap busy (sym (sees.ports p h.0) ∙ h.2) in
          rw (lt-leb m.writes p h.0, lt-leb m.depth a h.1, unused, waiting_held a h.3)

  edge_goal : (m' : Meaning W) → Clocked m m' → Goal m' edge Edged
  edge_goal m' k =
      let shape = k.shape in (
        refl,
        record {
          words = λ b l.
              let l' : b < m.depth = omega arith in
              elim (cases_Bool (s.held b)) [
                | inl y ↦
                    let o = sound.held b y in
                    k.landed o.0 b o.1 o.2 (sees.ports o.0 o.2 ∙ o.3) ∙ sym (sound.lands o.0 b o.1 o.3)
                | inr y ↦ k.kept b l' (held_idle b y) ∙ sees.words b l' ∙ sym (sound.stays b y)
              ];
          used = λ q l. let l' : q < m.reads = omega arith in k.used q l';
          ports = λ q l. let l' : q < m.writes = omega arith in k.ports q l';
        },
        shape,
        sound_clocked m.writes s,
      )

  pub follows : (m' : Meaning W) (c : Call W) (r : Answer W) → Tried m c r m' → Goal m' c r
  follows m' (read p a) (Word w) h = read_goal m' p a w h
  follows m' (read p a) (Refused n) h = unread_goal m' p a n h
  follows m' (read p a) Accepted h = absurd h
  follows m' (read p a) Edged h = absurd h
  follows m' (write p a w) Accepted h = write_goal m' p a w h
  follows m' (write p a w) (Refused n) h = unwritten_goal m' p a w n h
  follows m' (write p a w) (Word v) h = absurd h
  follows m' (write p a w) Edged h = absurd h
  follows m' edge Edged h = edge_goal m' h
  follows m' edge (Word w) h = absurd h
  follows m' edge Accepted h = absurd h
  follows m' edge (Refused n) h = absurd h

-- a held write of a run by the rules is what its port holds
pub since_port : {W : Type 0} (z : W) (sz : Sizes) {p a : ℕ} {w : W} {t : Run W} → Fits sz z t → Holding t p a w → (after z t).port p ≡ holding a w
since_port z sz {p} {a} {w} f (Since.latest {t}) = cond-true (eqb p p) (holding a w) ((after z t).port p) (eq-eqb p p refl)
since_port {W} z sz {p} {a} {w} f (Since.earlier {t} {y = c ⇒ r} i s) = go f i (kind (c ⇒ r)) (since_port z sz f.0 s)
  where
    go : {y : Entry W} → Fits sz z (t ▹ y) → Inside y → Kind y → (after z t).port p ≡ holding a w → (step (after z t) y).port p ≡ holding a w
    go f i reading h = h
    go f i (writing {p = q} {a = b} {w = v}) h =
        let r = ready sz (after z t) (write q b v) Accepted f.1 accepted_stands in
        let other : eqb p q ≡ false = ne_eqb p q (λ k. both_ways (busy ((after z t).port q)) (r.0 Busy) (ap busy (subst (λ j. (after z t).port j ≡ holding a w) k h))) in
        cond-false (eqb p q) (holding b v) ((after z t).port p) other ∙ h
    go f i clocking h = elim i [ ]
    go f i (idle _ same _) h = ap (λ x. x.port p) (same (after z t)) ∙ h

-- so a memory in the computed state is as the run says
pub stands : {W : Type 0} (z : W) (sz : Sizes) (t : Run W) (m : Meaning W) → Fits sz z t → Shows m (after z t) → Stands z t m
stands z sz t m f h =
    record {
      words = λ a lt. subst (At z t a) (sym (h.words a lt)) (word_at z t a);
      used = λ p lt. (λ e. used_since z t p (sym (h.used p lt) ∙ e), λ u. h.used p lt ∙ since_used z u.2);
      ports = λ p a w lt. (λ e. port_since z t p a w (sym (h.ports p lt) ∙ e), λ u. h.ports p lt ∙ since_port z sz f u);
    }
