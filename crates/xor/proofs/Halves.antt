-- What a read and a write leave of the layer, from what they leave of its halves.
use Rattle.std.specs.Prelude.{◌≡◌, ℕ, ◌+◌, ◌<◌, Some, Ok, Result, refl}
use Rattle.std.proofs.Common.{sym, ap, subst, ◌∙◌, arith}
use Rattle.word.specs.declared.Letter.{Letter}
use Rattle.node.specs.declared.node.Layer.TheVariants.{Xor as own}
use Rattle.memory.specs.declared.refusal.Refusal.{Refusal}
use Rattle.memory.specs.Meaning.{Meaning, Port, free, holding, address, SameWords, Tidy}
use Rattle.memory.specs.Calls.{MayRead, MayWrite, Read, Write}
use Rattle.joint.specs.declared.sizes.Joint.{Joint}
use Rattle.joint.specs.Piles.{Agreed}
use Rattle.joint.proofs.Piles.{agreed_still, same_layer}
use Rattle.joint.proofs.Sides.{of_first, of_second}
use Rattle.xor.specs.Xor.{Paired, Put, ReadBoth, added, busy, recovery, xor}
use Rattle.xor.specs.Tidy.{Numbers, numbers, which, at_first, at_second}
use Rattle.xor.specs.Edges.{idle_first, idle_second}
use Rattle.xor.proofs.Pairs.{numbers_turned, turned, paired_turned, paired_read, paired_put}

-- a write port with something added to the word that it holds
module _ {W : Type 0} where
  -- it is free only if it was
  free_added : (sum : ℕ → W → W) (o : Port W) → added sum o ≡ free → o ≡ free
  free_added sum free e = refl
  free_added sum (holding x u) e = let f = ap address e in let z : ◌≡◌ {A = ℕ} 0 1 = cc in absurd (omega arith)

  -- it stays where the port and the sum at its address do
  same_added : (sum sum' : ℕ → W → W) (o o' : Port W) → o' ≡ o → ((x : ℕ) → address o ≡ Some x → (u : W) → sum' x u ≡ sum x u) → added sum' o' ≡ added sum o
  same_added sum sum' free o' e h = ap (added sum') e
  same_added sum sum' (holding x u) o' e h = ap (added sum') e ∙ ap (holding x) (h x refl u)

-- halves that keep their words
module _ {W : Type 0} (plus : W → W → W) (j : Joint) (a b a' b' : Meaning W) (n : Numbers j a b) (s : SameWords a a') (t : SameWords b b') where
  words_still : SameWords (xor plus j a b) (xor plus j a' b')
  words_still = record {
    shape = same_layer s.shape t.shape own j;
    words = λ y hy. ap (λ (u : W). plus u (b'.word y)) (s.words y (omega arith)) ∙ ap (plus (a.word y)) (t.words y (omega arith));
  }

  first_still : (q : ℕ) → Tidy a → q < j.first.writes → a'.port q ≡ a.port q → (xor plus j a' b').port q ≡ (xor plus j a b).port q
  first_still q tidy h e =
      at_first plus j a' b' q h
      ∙ same_added (λ x u. plus u (b.word x)) (λ x u. plus u (b'.word x)) (a.port q) (a'.port q) e (λ y held u. ap (plus u) (t.words y (let l = tidy.within q y (omega arith) held in omega arith)))
      ∙ sym (at_first plus j a b q h)

  second_still : (q i : ℕ) → Tidy b → i < j.second.writes → q ≡ j.first.writes + i → b'.port i ≡ b.port i → (xor plus j a' b').port q ≡ (xor plus j a b).port q
  second_still q i tidy h k e =
      at_second plus j a' b' q i k
      ∙ same_added (λ x u. plus (a.word x) u) (λ x u. plus (a'.word x) u) (b.port i) (b'.port i) e (λ y held u. ap (λ (v : W). plus v u) (s.words y (let l = tidy.within i y (omega arith) held in omega arith)))
      ∙ sym (at_second plus j a b q i k)

-- a read through one port of both halves
pub read_layer : {W : Type 0} (plus : W → W → W) (k : Letter) (j : Joint) (a b a' b' : Meaning W) (p x : ℕ) (r : Result W Refusal) → Agreed own k j a b → Paired j a b → Tidy a → Tidy b → MayRead (xor plus j a b) p x (Ok tt) → ReadBoth plus a b p x r a' b' → Read (xor plus j a b) p x r (xor plus j a' b') × Agreed own k j a' b' × Paired j a' b'
read_layer {W} plus k j a b a' b' p x r g h ta tb m read =
    let n = numbers k j a b g in
    let hp = m.0 in
    let hx = m.1 in
    let done = read (omega arith, omega arith, m.2) (omega arith, omega arith, h.used p hp ∙ m.2) in
    let s = done.1 in
    let t = done.2 in (
      subst (λ (r : Result W Refusal). Read (xor plus j a b) p x r (xor plus j a' b')) (sym done.0) (
        m,
        refl,
        record {
          words = words_still plus j a b a' b' n s.words t.words;
          here = s.here;
          used = λ q hq other. s.used q (omega arith) other;
          ports = λ q hq. elim (which plus j a b q (omega arith)) [
            | of_first l _ ↦ first_still plus j a b a' b' n s.words t.words q ta l (s.ports q (omega arith))
            | of_second i l d _ ↦ second_still plus j a b a' b' n s.words t.words q i tb l d (t.ports i (omega arith))
          ];
        },
      ),
      agreed_still s.words.shape t.words.shape g,
      paired_read j a b a' b' p n h hp s t,
    )

-- a write into the first half
pub put_first : {W : Type 0} (plus minus : W → W → W) → ((u v : W) → plus (minus v u) u ≡ v) → (k : Letter) (j : Joint) (a b a' b' : Meaning W) (p o c x : ℕ) (w : W) (r : Result (Unit {0}) Refusal) → Agreed own k j a b → Paired j a b → Tidy a → Tidy b → MayWrite (xor plus j a b) p x (Ok tt) → (p < j.first.writes) × (o ≡ p) → c ≡ recovery j.first j.second o → Put minus a b o c x w r a' b' → Write (xor plus j a b) p x w r (xor plus j a' b') × Agreed own k j a' b' × Paired j a' b'
put_first {W} plus minus restores k j a b a' b' p o c x w r g h ta tb m at is_c did =
    let l = at.0 in
    let hc : c ≡ recovery j.first j.second p = is_c ∙ ap (recovery j.first j.second) at.1 in
    let put = subst (λ (q : ℕ). Put minus a b q c x w r a' b') at.1 did in
    let n = numbers k j a b g in
    let idle_a = idle_first plus j a b x n m.3 in
    let idle_b = idle_second plus j a b x n m.3 in
    let hx = m.1 in
    let is_free = free_added (λ y u. plus u (b.word y)) (a.port p) (sym (at_first plus j a b p l) ∙ m.2) in
    let done = put (omega arith, omega arith, is_free, idle_a) (omega arith, omega arith, ap b.used hc ∙ h.first p l ∙ ap busy is_free) in
    let s = done.1 in
    let t = done.2 in (
      subst (λ (r : Result (Unit {0}) Refusal). Write (xor plus j a b) p x w r (xor plus j a' b')) (sym done.0) (
        m,
        record {
          words = words_still plus j a b a' b' n s.words t.words;
          used = λ q hq. s.used q (omega arith);
          here = at_first plus j a' b' p l ∙ ap (added (λ y u. plus u (b'.word y))) s.here ∙ ap (holding x) (ap (plus (minus w (b.word x))) (t.words.words x (omega arith)) ∙ restores (b.word x) w);
          ports = λ q hq other. elim (which plus j a b q (omega arith)) [
            | of_first o _ ↦ first_still plus j a b a' b' n s.words t.words q ta o (s.ports q (omega arith) other)
            | of_second i o d _ ↦ second_still plus j a b a' b' n s.words t.words q i tb o d (t.ports i (omega arith))
          ];
        },
      ),
      agreed_still s.words.shape t.words.shape g,
      paired_put j a b a' b' p c x (minus w (b.word x)) n h l hc idle_b s t,
    )

-- a write into the second half
pub put_second : {W : Type 0} (plus minus : W → W → W) → ((u v : W) → plus u v ≡ plus v u) → ((u v : W) → plus (minus v u) u ≡ v) → (k : Letter) (j : Joint) (a b a' b' : Meaning W) (p o c x : ℕ) (w : W) (r : Result (Unit {0}) Refusal) → Agreed own k j a b → Paired j a b → Tidy a → Tidy b → MayWrite (xor plus j a b) p x (Ok tt) → p ≡ j.first.writes + o → c ≡ recovery j.second j.first o → Put minus b a o c x w r b' a' → Write (xor plus j a b) p x w r (xor plus j a' b') × Agreed own k j a' b' × Paired j a' b'
put_second plus minus commutes restores k j a b a' b' p o c x w r g h ta tb m d hc put =
    let n = numbers k j a b g in
    let idle_a = idle_first plus j a b x n m.3 in
    let idle_b = idle_second plus j a b x n m.3 in
    let hp = m.0 in
    let hx = m.1 in
    let l : o < j.second.writes = omega arith in
    let is_free = free_added (λ y u. plus (a.word y) u) (b.port o) (sym (at_second plus j a b p o d) ∙ m.2) in
    let done = put (omega arith, omega arith, is_free, idle_b) (omega arith, omega arith, ap a.used hc ∙ h.second o l ∙ ap busy is_free) in
    let t = done.1 in
    let s = done.2 in
    let v = minus w (a.word x) in (
      subst (λ (r : Result (Unit {0}) Refusal). Write (xor plus j a b) p x w r (xor plus j a' b')) (sym done.0) (
        m,
        record {
          words = words_still plus j a b a' b' n s.words t.words;
          used = λ q hq. s.used q (omega arith) (λ e. omega arith);
          here = at_second plus j a' b' p o d ∙ ap (added (λ y u. plus (a'.word y) u)) t.here ∙ ap (holding x) (ap (λ u. plus u v) (s.words.words x (omega arith)) ∙ commutes (a.word x) v ∙ restores (a.word x) w);
          ports = λ q hq other. elim (which plus j a b q (omega arith)) [
            | of_first i _ ↦ first_still plus j a b a' b' n s.words t.words q ta i (s.ports q (omega arith))
            | of_second i y z _ ↦ second_still plus j a b a' b' n s.words t.words q i tb y z (t.ports i (omega arith) (λ e. other (omega arith)))
          ];
        },
      ),
      agreed_still s.words.shape t.words.shape g,
      paired_turned (turned j) b' a' (paired_put (turned j) b a b' a' o c x v (numbers_turned j a b n) (paired_turned j a b h) l hc idle_a t s),
    )
