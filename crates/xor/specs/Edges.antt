-- The edge of the layer, from those of its halves: the lemma that its law cites.
use Rattle.std.specs.Prelude.{◌≡◌, ℕ, ◌+◌, refl}
use Rattle.std.proofs.Common.{sym, ap, ◌∙◌, arith}
use Rattle.word.specs.declared.Letter.{Letter}
use Rattle.node.specs.declared.node.Layer.TheVariants.{Xor as own}
use Rattle.memory.specs.Meaning.{Meaning, Port, free, holding, address, Tidy}
use Rattle.memory.specs.Calls.{Idle, Edged}
use Rattle.joint.specs.declared.sizes.Joint.{Joint}
use Rattle.joint.specs.Piles.{Agreed}
use Rattle.joint.proofs.Piles.{same_layer}
use Rattle.joint.proofs.Sides.{of_first, of_second}
use Rattle.xor.specs.Xor.{Paired, added, busy, recovery, xor}
use Rattle.xor.specs.Tidy.{Numbers, numbers, address_added, which, at_first, at_second}

-- what a write port with something added holds is the sum
holding_added : {W : Type 0} (sum : ℕ → W → W) (o : Port W) (x : ℕ) (w : W) → added sum o ≡ holding x w → (u : W) × (o ≡ holding x u) × (sum x u ≡ w)
holding_added sum free x w e = let f = ap address e in let z : ◌≡◌ {A = ℕ} 0 1 = cc in absurd (omega arith)
holding_added sum (holding y u) x w e = (u, cc, cc)

module _ {W : Type 0} (plus : W → W → W) (j : Joint) where
  module _ (a b : Meaning W) where
    -- an address that the layer does not hold is held by neither half
    pub idle_first : (x : ℕ) → Numbers j a b → Idle (xor plus j a b) x → Idle a x
    idle_first x n idle q h e = idle q (omega arith) (ap address (at_first plus j a b q (omega arith)) ∙ address_added (λ x u. plus u (b.word x)) (a.port q) ∙ e)

    pub idle_second : (x : ℕ) → Numbers j a b → Idle (xor plus j a b) x → Idle b x
    idle_second x n idle i h e = idle (j.first.writes + i) (omega arith) (ap address (at_second plus j a b (j.first.writes + i) i refl) ∙ address_added (λ x u. plus (a.word x) u) (b.port i) ∙ e)

-- what the halves share after the edge of both
pub paired_edge : {W : Type 0} (j : Joint) (a b a' b' : Meaning W) → Numbers j a b → Edged a a' → Edged b b' → Paired j a' b'
paired_edge j a b a' b' n s t = record {
  used = λ q hq. t.used q (omega arith) ∙ sym (s.used q (omega arith));
  first = λ w hw. t.used (recovery j.first j.second w) (omega arith) ∙ ap busy (sym (s.ports w (omega arith)));
  second = λ w hw. s.used (recovery j.second j.first w) (omega arith) ∙ ap busy (sym (t.ports w (omega arith)));
  apart = λ w w' x hw hw' e e'. (let f = ap address (sym (s.ports w (omega arith))) ∙ e in let z : ◌≡◌ {A = ℕ} 0 1 = cc in omega arith);
}

-- the edge of both halves
pub edge_both : {W : Type 0} (plus : W → W → W) (k : Letter) (j : Joint) (a b a' b' : Meaning W) → Agreed own k j a b → Paired j a b → Tidy a → Tidy b → Edged a a' → Edged b b' → Edged (xor plus j a b) (xor plus j a' b') × Paired j a' b'
edge_both {W} plus k j a b a' b' g h ta tb s t =
    let n = numbers k j a b g in (
      record {
        shape = same_layer s.shape t.shape own j;
        landed = λ q x w hq e. elim (which plus j a b q (omega arith)) [
          | of_first l d ↦ (
              let o = holding_added (λ y u. plus u (b.word y)) (a.port q) x w (sym d ∙ e) in
              let held = ap address o.1 in
              let below = ta.within q x (omega arith) held in
              ap (λ u. plus u (b'.word x)) (s.landed q x o.0 (omega arith) o.1)
              ∙ ap (plus o.0) (t.kept x (omega arith) (λ i hi e'. h.apart q i x l (omega arith) held e'))
              ∙ o.2)
          | of_second i l z d ↦ (
              let o = holding_added (λ y u. plus (a.word y) u) (b.port i) x w (sym d ∙ e) in
              let held = ap address o.1 in
              let below = tb.within i x (omega arith) held in
              ap (λ u. plus u (b'.word x)) (s.kept x (omega arith) (λ c hc e'. h.apart c i x (omega arith) l e' held))
              ∙ ap (plus (a.word x)) (t.landed i x o.0 (omega arith) o.1)
              ∙ o.2)
        ];
        kept = λ x hx idle.
            ap (λ u. plus u (b'.word x)) (s.kept x (omega arith) (idle_first plus j a b x n idle))
            ∙ ap (plus (a.word x)) (t.kept x (omega arith) (idle_second plus j a b x n idle));
        used = λ q hq. s.used q (omega arith);
        ports = λ q hq. elim (which plus j a b q (omega arith)) [
          | of_first l _ ↦ at_first plus j a' b' q l ∙ ap (added (λ y u. plus u (b'.word y))) (s.ports q (omega arith))
          | of_second i l d _ ↦ at_second plus j a' b' q i d ∙ ap (added (λ y u. plus (a'.word y) u)) (t.ports i (omega arith))
        ];
      },
      paired_edge j a b a' b' n s t,
    )
