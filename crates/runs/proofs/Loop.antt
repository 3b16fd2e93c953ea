-- A run as it goes on, call by call: what a loop that tries calls on a memory keeps, and what it gives in the end.
use Rattle.std.proofs.Common.{◌≡◌, ℕ, ◌+◌, ◌<◌, Bool, true, false, List, [], ◌∷◌, ◌++◌, length, get_or, take, sym, refl, ap, ◌∙◌, subst, arith, length-append}
use Rattle.std.proofs.lemmas.List.{take_more}
use Rattle.memory.specs.Meaning.{Port, free, holding, Meaning, SameShape}
use Rattle.runs.specs.declared.call.Answer.{Answer}
use Rattle.runs.specs.declared.call.Call.{Call}
use Rattle.runs.specs.Tries.{Tried}
use Rattle.runs.specs.Runs.{◌⇒◌, Run, configured, ◌▹◌, run_on, run_of, Sizes, sizes, Ran, Stands}
use Rattle.runs.specs.Alike.{SameSizes, Agree}
use Rattle.runs.proofs.Laws.{obeys, lawful}
use Rattle.runs.proofs.State.{after, Fits}
use Rattle.runs.proofs.Bridge.{fits_lawful, lawful_fits, at_word, used_since, since_used, port_since}
use Rattle.runs.proofs.Places.{rearranged, one_answer}
use Rattle.runs.proofs.Follow.{since_port, Shows, Sound, follows, stands}

-- these calls were tried since configure and got these answers, and the memory is in the state that is computed of them
pub record Running {W : Type 0} (z : W) (calls : List (Call W)) (answers : List (Answer W)) (m : Meaning W) : Type 0 where
  pub each : length answers ≡ length calls
  pub fits : Fits (sizes m) z (run_of calls answers)
  pub sees : Shows m (after z (run_of calls answers))
  pub sound : Sound m.writes (after z (run_of calls answers))

-- the last call of a run
run_last : {W : Type 0} (t : Run W) (cs : List (Call W)) (rs : List (Answer W)) (c : Call W) (r : Answer W) → length rs ≡ length cs → run_on t (cs ++ c ∷ []) (rs ++ r ∷ []) ≡ run_on t cs rs ▹ (c ⇒ r)
run_last t [] [] c r e = refl
run_last t [] (u ∷ rs) c r e = absurd (omega arith)
run_last t (d ∷ cs) [] c r e = absurd (omega arith)
run_last t (d ∷ cs) (u ∷ rs) c r e = run_last (t ▹ (d ⇒ u)) cs rs c r (omega arith)

-- the sizes of a memory
same_sizes : {W : Type 0} {m n : Meaning W} → SameSizes m n → sizes n ≡ sizes m
same_sizes h = λ i. record { reads = h.reads i; writes = h.writes i; depth = h.depth i }

shape_sizes : {W : Type 0} {m n : Meaning W} → SameShape m n → SameSizes m n
shape_sizes h = record { reads = h.reads; writes = h.writes; depth = h.depth }

-- one call more
pub running_more : {W : Type 0} (z : W) (calls : List (Call W)) (answers : List (Answer W)) (m n : Meaning W) (c : Call W) (r : Answer W) → Running z calls answers m → Tried m c r n → Running z (calls ++ c ∷ []) (answers ++ r ∷ []) n × SameShape m n
running_more z calls answers m n c r h k =
    let g = follows m (after z (run_of calls answers)) h.sees h.sound n c r k in
    let e : run_of (calls ++ c ∷ []) (answers ++ r ∷ []) ≡ run_of calls answers ▹ (c ⇒ r) = run_last configured calls answers c r h.each in
    let f : Fits (sizes m) z (run_of calls answers ▹ (c ⇒ r)) = (h.fits, g.0) in (
      record {
        each = simp length-append (omega (arith, h.each));
        fits = subst (λ s. Fits s z (run_of (calls ++ c ∷ []) (answers ++ r ∷ []))) (sym (same_sizes (shape_sizes g.2))) (subst (Fits (sizes m) z) (sym e) f);
        sees = subst (λ t. Shows n (after z t)) (sym e) g.1;
        sound = subst (λ k. Sound k (after z (run_of (calls ++ c ∷ []) (answers ++ r ∷ [])))) (sym g.2.writes) (subst (λ t. Sound m.writes (after z t)) (sym e) g.3);
      },
      g.2,
    )

-- one call more of a list, whose answer goes to the end of another
pub running_next : {W : Type 0} (z : W) (calls : List (Call W)) (answers more : List (Answer W)) (m n : Meaning W) (i : ℕ) (c : Call W) (r : Answer W) → i < length calls → c ≡ get_or calls i c → more ≡ answers ++ r ∷ [] → Running z (take i calls) answers m → Tried m c r n → Running z (take (i + 1) calls) more n × SameShape m n
running_next z calls answers more m n i c r lt at e h k =
    let t : take (i + 1) calls ≡ take i calls ++ c ∷ [] = take_more calls i c lt ∙ ap (λ x. take i calls ++ x ∷ []) (sym at) in
    let g = running_more z (take i calls) answers m n c r h k in
    (subst (λ x. Running z (take (i + 1) calls) x n) (sym e) (subst (λ x. Running z x (answers ++ r ∷ []) n) (sym t) g.0), g.1)

-- what was tried is a run by the rules
pub ran : {W : Type 0} (z : W) (calls : List (Call W)) (answers : List (Answer W)) (m : Meaning W) → Running z calls answers m → Ran z calls answers m
ran z calls answers m h =
    record {
      each = h.each;
      obeys = obeys (fits_lawful z (sizes m) (run_of calls answers) h.fits);
      stands = stands z (sizes m) (run_of calls answers) m h.fits h.sees;
    }

-- a shape is kept by one thing after another
pub shape_then : {W : Type 0} {m n o : Meaning W} → SameShape m n → SameShape n o → SameShape m o
shape_then h k =
    record { reads = k.reads ∙ h.reads; writes = k.writes ∙ h.writes; depth = k.depth ∙ h.depth; plan = k.plan ∙ h.plan }

-- what says the same of two tests or two ports
same_true : (a b : Bool) → (a ≡ true → b ≡ true) → (b ≡ true → a ≡ true) → a ≡ b
same_true true b f g = sym (f refl)
same_true false true f g = g refl
same_true false false f g = refl

same_port : {W : Type 0} (x y : Port W) → ((a : ℕ) (w : W) → x ≡ holding a w → y ≡ holding a w) → ((a : ℕ) (w : W) → y ≡ holding a w → x ≡ holding a w) → x ≡ y
same_port free free f g = refl
same_port free (holding a w) f g = g a w refl
same_port (holding a w) y f g = sym (f a w refl)

-- a memory that is as a run by the rules says is in the computed state
stood : {W : Type 0} (z : W) (sz : Sizes) (t : Run W) (m : Meaning W) → Fits sz z t → Stands z t m → Shows m (after z t)
stood z sz t m f h =
    record {
      words = λ a lt. sym (at_word (h.words a lt));
      used = λ p lt. same_true _ _ (λ e. since_used z ((h.used p lt).0 e).2) (λ e. (h.used p lt).1 (used_since z t p e));
      ports = λ p lt. same_port _ _ (λ a w e. since_port z sz f ((h.ports p a w lt).0 e)) (λ a w e. (h.ports p a w lt).1 (port_since z t p a w e));
    }

-- two runs by the rules agree
pub agree : {W : Type 0} (z : W) (calls others : List (Call W)) (first second : List (Answer W)) (m n : Meaning W) → Ran z calls first m → Ran z others second n → Agree calls others first second m n
unfolding Agree
agree z calls others first second m n h k e some l re =
    let f = lawful_fits (lawful z (sizes m) (run_of calls first) h.obeys) in
    let g : Fits (sizes m) z (run_of others second) = subst (λ s. Fits s z (run_of others second)) (same_sizes e) (lawful_fits (lawful z (sizes n) (run_of others second) k.obeys)) in
    let r = rearranged (sizes m) z re f in
    let same : second ≡ some = one_answer (sizes m) z configured others second some k.each l g r.0 in
    let a = stood z (sizes m) (run_of calls first) m f h.stands in
    let b = stood z (sizes m) (run_of others second) n g k.stands in
    let s : after z (run_of others second) ≡ after z (run_of calls first) = ap (λ x. after z (run_of others x)) same ∙ r.1 in (
      same,
      record {
        sizes = e;
        words = λ x lt. b.words x (omega arith) ∙ ap (λ q. q.word x) s ∙ sym (a.words x lt);
        used = λ p lt. b.used p (omega arith) ∙ ap (λ q. q.used p) s ∙ sym (a.used p lt);
        ports = λ p lt. b.ports p (omega arith) ∙ ap (λ q. q.port p) s ∙ sym (a.ports p lt);
      },
    )
