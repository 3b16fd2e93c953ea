-- Leaving refused calls out, and reads and writes changing places.
use Rattle.std.proofs.Common.{◌≡◌, ℕ, Bool, true, false, cond, ◌||◌, eqb, List, [], ◌∷◌, length, sym, refl, ap, ◌∙◌, subst, inl, inr, arith}
use mathlib.Core.Path.{fun_ext}
use Rattle.std.proofs.lemmas.Bool.{true≢false, both_ways, eq-eqb, eqb-false, ne_eqb, or_parts, or_from, cases_eq}
use Rattle.memory.specs.declared.refusal.Refusal.TheVariants.{NoPort, NoAddress, Busy, Held}
use Rattle.memory.specs.Meaning.{Port, holding}
use Rattle.runs.specs.declared.call.Answer.{Answer}
use Rattle.runs.specs.declared.call.Call.{Call}
use Rattle.runs.specs.declared.call.Call.TheVariants.{Read, Write, Edge}
use Rattle.runs.specs.Runs.{◌⇒◌, Run, configured, ◌▹◌, run_on, Inside, reads, writes, Sizes}
use Rattle.runs.specs.Alike.{NotRefused, LeftOut, Moved, Rearranged}
use Rattle.runs.proofs.Laws.{edged_stands}
use Rattle.runs.proofs.State.{busy, State, took, filled, step, after, each, AllFalse, judged, tests, reply, answer, Fits}

-- no call of a run was refused
abbrev AllAccepted : {W : Type 0} → Run W → Type 0
AllAccepted configured = Unit {0}
AllAccepted (t ▹ (c ⇒ r)) = AllAccepted t × NotRefused r

-- no rule refuses a call
abbrev pub Ready : {W : Type 0} → Sizes → State W → Call W → Type 0
Ready sz s c = AllFalse (tests sz s c)

-- a call that was not refused
pub ready : {W : Type 0} (sz : Sizes) (s : State W) (c : Call W) (r : Answer W) → r ≡ answer sz s c → NotRefused r → Ready sz s c × (r ≡ reply s c)
ready sz s c r e h =
    judged (λ u. r ≡ u → Ready sz s c × (r ≡ reply s c)) (tests sz s c) (reply s c) (λ n f g. absurd (h n g)) (λ f g. (f, g)) e

answer_ready : {W : Type 0} (sz : Sizes) (s : State W) (c : Call W) → Ready sz s c → answer sz s c ≡ reply s c
answer_ready sz s c h =
    judged (λ u. u ≡ reply s c) (tests sz s c) (reply s c) (λ n f. absurd (both_ways (tests sz s c n) (h n) f.holds)) (λ f. refl)

-- the state after a call that no rule refuses
abbrev move : {W : Type 0} → State W → Call W → State W
move s c = step s (c ⇒ reply s c)

-- of two calls, one after the other: the second can be sooner, and the first later, with the same answers and the same end
record Swapped {W : Type 0} (sz : Sizes) (s : State W) (c d : Call W) : Type 0 where
  pub sooner : Ready sz s d
  pub later : Ready sz (move s d) c
  pub second : reply (move s c) d ≡ reply s d
  pub first : reply s c ≡ reply (move s d) c
  pub ends : move (move s c) d ≡ move (move s d) c

-- a call inside a cycle
abbrev NoEdge : {W : Type 0} → Call W → Type 0
NoEdge (Read p a) = Unit {0}
NoEdge (Write p a w) = Unit {0}
NoEdge Edge = ⊥

inside_call : {W : Type 0} {c : Call W} {r : Answer W} → Inside (c ⇒ r) → NoEdge c
inside_call reads = tt
inside_call writes = tt

or_swap : (a b c : Bool) → (a || (b || c)) ≡ (b || (a || c))
or_swap true true c = refl
or_swap true false c = refl
or_swap false true c = refl
or_swap false false c = refl

eqb_sym_false : (a b : ℕ) → eqb a b ≡ false → eqb b a ≡ false
eqb_sym_false a b e = ne_eqb b a (λ q. eqb-false a b e (sym q))

cond_swap : {X : Type 0} (k a b : ℕ) (x y o : X) → eqb b a ≡ false → cond (eqb k b) y (cond (eqb k a) x o) ≡ cond (eqb k a) x (cond (eqb k b) y o)
cond_swap k a b x y o n =
    elim (cases_eq k a) [
      | inl e ↦
          let h : eqb k a ≡ true = eq-eqb k a e in
          let g : eqb k b ≡ false = ne_eqb k b (λ f. eqb-false b a n (sym f ∙ e)) in
          rw (h, g)
      | inr m ↦ let h : eqb k a ≡ false = ne_eqb k a m in rw h
    ]

busy_other : {W : Type 0} (b : Bool) (a : ℕ) (w : W) (x : Port W) → busy (cond b (holding a w) x) ≡ false → (b ≡ false) × (busy x ≡ false)
busy_other true a w x e = absurd (true≢false e)
busy_other false a w x e = (refl, e)

busy_still : {W : Type 0} (b : Bool) (a : ℕ) (w : W) (x : Port W) → b ≡ false → busy x ≡ false → busy (cond b (holding a w) x) ≡ false
busy_still true a w x n e = absurd (true≢false n)
busy_still false a w x n e = e

took_took : {W : Type 0} (s : State W) (p q : ℕ) → took (took s p) q ≡ took (took s q) p
took_took s p q =
    let used : (took (took s p) q).used ≡ (took (took s q) p).used = fun_ext (λ k. or_swap (eqb k q) (eqb k p) (s.used k)) in
    λ i. record { used = used i; port = s.port; held = s.held; coming = s.coming; word = s.word }

filled_filled : {W : Type 0} (s : State W) (p a : ℕ) (w : W) (q b : ℕ) (v : W) → eqb q p ≡ false → eqb b a ≡ false → filled (filled s p a w) q b v ≡ filled (filled s q b v) p a w
filled_filled s p a w q b v ports addresses =
    let port : (filled (filled s p a w) q b v).port ≡ (filled (filled s q b v) p a w).port = fun_ext (λ k. cond_swap k p q (holding a w) (holding b v) (s.port k) ports) in
    let held : (filled (filled s p a w) q b v).held ≡ (filled (filled s q b v) p a w).held = fun_ext (λ k. or_swap (eqb k b) (eqb k a) (s.held k)) in
    let coming : (filled (filled s p a w) q b v).coming ≡ (filled (filled s q b v) p a w).coming = fun_ext (λ k. cond_swap k a b w v (s.coming k) addresses) in
    λ i. record { used = s.used; port = port i; held = held i; coming = coming i; word = s.word }

-- two calls of one cycle
swapped : {W : Type 0} (sz : Sizes) (s : State W) (c d : Call W) → NoEdge c → NoEdge d → Ready sz s c → Ready sz (move s c) d → Swapped sz s c d
swapped sz s (Read p a) (Read q b) nc nd rc rd =
    let port = or_parts (eqb q p) (s.used q) (rd Busy) in
    record {
      sooner = each _ (rd NoPort) (rd NoAddress) port.1 refl;
      later = each _ (rc NoPort) (rc NoAddress) (or_from (eqb p q) (s.used p) (eqb_sym_false q p port.0) (rc Busy)) refl;
      second = refl;
      first = refl;
      ends = took_took s p q;
    }
swapped sz s (Read p a) (Write q b v) nc nd rc rd =
    record {
      sooner = each _ (rd NoPort) (rd NoAddress) (rd Busy) (rd Held);
      later = each _ (rc NoPort) (rc NoAddress) (rc Busy) refl;
      second = refl;
      first = refl;
      ends = refl;
    }
swapped sz s (Read p a) Edge nc nd rc rd = absurd nd
swapped sz s (Write p a w) (Read q b) nc nd rc rd =
    record {
      sooner = each _ (rd NoPort) (rd NoAddress) (rd Busy) refl;
      later = each _ (rc NoPort) (rc NoAddress) (rc Busy) (rc Held);
      second = refl;
      first = refl;
      ends = refl;
    }
swapped sz s (Write p a w) (Write q b v) nc nd rc rd =
    let port = busy_other (eqb q p) a w (s.port q) (rd Busy) in
    let address = or_parts (eqb b a) (s.held b) (rd Held) in
    record {
      sooner = each _ (rd NoPort) (rd NoAddress) port.1 address.1;
      later = each _ (rc NoPort) (rc NoAddress) (busy_still (eqb p q) b v (s.port p) (eqb_sym_false q p port.0) (rc Busy)) (or_from (eqb a b) (s.held a) (eqb_sym_false b a address.0) (rc Held));
      second = refl;
      first = refl;
      ends = filled_filled s p a w q b v port.0 address.0;
    }
swapped sz s (Write p a w) Edge nc nd rc rd = absurd nd
swapped sz s Edge d nc nd rc rd = absurd nc

-- a run by the rules, none of its calls refused
record Clean {W : Type 0} (sz : Sizes) (z : W) (t : Run W) : Type 0 where
  pub fits : Fits sz z t
  pub accepted : AllAccepted t

-- without its refused calls a run by the rules is one too, and leaves the same
left_out : {W : Type 0} {sz : Sizes} {z : W} {t s : Run W} → LeftOut t s → Fits sz z t → Clean sz z s × (after z s ≡ after z t)
left_out LeftOut.none f = (record { fits = tt; accepted = tt }, refl)
left_out (LeftOut.left {c = Read p a} l) f = left_out l f.0
left_out (LeftOut.left {c = Write p a w} l) f = left_out l f.0
left_out (LeftOut.left {c = Edge} {n} l) f = absurd (edged_stands n (sym f.1))
left_out {sz = sz} {z} (LeftOut.kept {c} {r} h l) f =
    let g = left_out {sz = sz} {z = z} l f.0 in
    (record { fits = (g.0.fits, f.1 ∙ ap (λ x. answer sz x c) (sym g.1)); accepted = (g.0.accepted, h) }, ap (λ x. step x (c ⇒ r)) g.1)

module _ {W : Type 0} (sz : Sizes) (z : W) where
  -- two neighbours change places
  change : (t : Run W) (c d : Call W) (r u : Answer W) → NoEdge c → NoEdge d → Clean sz z (t ▹ (c ⇒ r) ▹ (d ⇒ u)) → Clean sz z (t ▹ (d ⇒ u) ▹ (c ⇒ r)) × (after z (t ▹ (d ⇒ u) ▹ (c ⇒ r)) ≡ after z (t ▹ (c ⇒ r) ▹ (d ⇒ u)))
  change t c d r u nc nd k =
      let s = after z t in
      let rc = ready sz s c r k.fits.0.1 k.accepted.0.1 in
      let cs : step s (c ⇒ r) ≡ move s c = ap (λ x. step s (c ⇒ x)) rc.1 in
      let rd = ready sz (move s c) d u (k.fits.1 ∙ ap (λ x. answer sz x d) cs) k.accepted.1 in
      let w = swapped sz s c d nc nd rc.0 rd.0 in
      let du : u ≡ reply s d = rd.1 ∙ w.second in
      let ds : step s (d ⇒ u) ≡ move s d = ap (λ x. step s (d ⇒ x)) du in
      let cr : r ≡ reply (move s d) c = rc.1 ∙ w.first in
      let sooner : u ≡ answer sz s d = du ∙ sym (answer_ready sz s d w.sooner) in
      let later : r ≡ answer sz (step s (d ⇒ u)) c = cr ∙ sym (answer_ready sz (move s d) c w.later) ∙ ap (λ x. answer sz x c) (sym ds) in
      let before : step (step s (c ⇒ r)) (d ⇒ u) ≡ move (move s c) d = ap (λ x. step x (d ⇒ u)) cs ∙ ap (λ x. step (move s c) (d ⇒ x)) rd.1 in
      let now : step (step s (d ⇒ u)) (c ⇒ r) ≡ move (move s d) c = ap (λ x. step x (c ⇒ r)) ds ∙ ap (λ x. step (move s d) (c ⇒ x)) cr in
      (record { fits = ((k.fits.0.0, sooner), later); accepted = ((k.accepted.0.0, k.accepted.1), k.accepted.0.1) }, now ∙ sym w.ends ∙ sym before)

  -- and any number of them
  moved : {t s : Run W} → Moved t s → Clean sz z t → Clean sz z s × (after z s ≡ after z t)
  moved Moved.same k = (k, refl)
  moved (Moved.change {t} {x = c ⇒ r} {y = d ⇒ u} i j) k = change t c d r u (inside_call i) (inside_call j) k
  moved (Moved.more {x = c ⇒ r} m) k =
      let g = moved m (record { fits = k.fits.0; accepted = k.accepted.0 }) in
      (record { fits = (g.0.fits, k.fits.1 ∙ ap (λ x. answer sz x c) (sym g.1)); accepted = (g.0.accepted, k.accepted.1) }, ap (λ x. step x (c ⇒ r)) g.1)
  moved (Moved.again m n) k =
      let g = moved m k in
      let h = moved n g.0 in
      (h.0, h.1 ∙ g.1)

  -- a rearranged run is by the rules too, and leaves the same
  pub rearranged : {t u : Run W} → Rearranged t u → Fits sz z t → Fits sz z u × (after z u ≡ after z t)
  rearranged h f =
      let g = left_out {sz = sz} {z = z} h.left f in
      let k = moved h.moved g.0 in
      (k.0.fits, k.1 ∙ g.1)

  -- a run by the rules was so before it went on
  prefix : (t : Run W) (cs : List (Call W)) (rs : List (Answer W)) → Fits sz z (run_on t cs rs) → Fits sz z t
  prefix t [] rs f = f
  prefix t (c ∷ cs) [] f = f
  prefix t (c ∷ cs) (r ∷ rs) f = (prefix (t ▹ (c ⇒ r)) cs rs f).0

  -- the rules give a list of calls one list of answers
  pub one_answer : (t : Run W) (cs : List (Call W)) (rs us : List (Answer W)) → length rs ≡ length cs → length us ≡ length cs → Fits sz z (run_on t cs rs) → Fits sz z (run_on t cs us) → rs ≡ us
  one_answer t [] [] [] lr lu f g = refl
  one_answer t [] [] (u ∷ us) lr lu f g = absurd (omega arith)
  one_answer t [] (r ∷ rs) us lr lu f g = absurd (omega arith)
  one_answer t (c ∷ cs) [] us lr lu f g = absurd (omega arith)
  one_answer t (c ∷ cs) (r ∷ rs) [] lr lu f g = absurd (omega arith)
  one_answer t (c ∷ cs) (r ∷ rs) (u ∷ us) lr lu f g =
      let e : u ≡ r = (prefix (t ▹ (c ⇒ u)) cs us g).1 ∙ sym (prefix (t ▹ (c ⇒ r)) cs rs f).1 in
      let h : Fits sz z (run_on (t ▹ (c ⇒ r)) cs us) = subst (λ x. Fits sz z (run_on (t ▹ (c ⇒ x)) cs us)) e g in
      let i = one_answer (t ▹ (c ⇒ r)) cs rs us (omega arith) (omega arith) f h in
      cc
