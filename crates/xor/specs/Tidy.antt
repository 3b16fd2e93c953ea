-- The ports of the layer are tidy where those of its halves are: the lemma that its law cites.
use Rattle.std.specs.Prelude.{◌≡◌, ℕ, ◌+◌, ◌<◌, ◌≤◌, Some, refl}
use Rattle.std.proofs.Common.{sym, ap, ◌∙◌, arith}
use Rattle.word.specs.declared.Letter.{Letter}
use Rattle.node.specs.declared.node.Layer.TheVariants.{Xor as own}
use Rattle.memory.specs.Meaning.{Meaning, Port, free, holding, address, Tidy}
use Rattle.joint.specs.declared.sizes.Joint.{Joint}
use Rattle.joint.specs.Piles.{Agreed}
use Rattle.joint.proofs.Piles.{live_write}
use Rattle.joint.proofs.Sides.{Side, of_first, of_second, side, beside_first, beside_second}
use Rattle.xor.specs.Xor.{Paired, added, xor}

-- the ports and the depth; each half has read ports for the layer's and for the other half's write ports
pub record Numbers {W : Type 0} (j : Joint) (a b : Meaning W) : Type 0 where
  pub first_reads : a.reads ≡ j.first.reads
  pub first_writes : a.writes ≡ j.first.writes
  pub first_depth : a.depth ≡ j.own.depth
  pub first_lends : j.own.reads + j.second.writes ≤ j.first.reads
  pub second_reads : b.reads ≡ j.second.reads
  pub second_writes : b.writes ≡ j.second.writes
  pub second_depth : b.depth ≡ j.own.depth
  pub second_lends : j.own.reads + j.first.writes ≤ j.second.reads
  pub writes : j.own.writes ≡ j.first.writes + j.second.writes

pub numbers : {W : Type 0} (k : Letter) (j : Joint) (a b : Meaning W) → Agreed own k j a b → Numbers j a b
numbers k j a b g =
    let f = g.matches.fits in
    let m = g.first in
    let n = g.second in
    let r = g.reads in
    let w = g.writes in
    let d = g.depth in
    record {
      first_reads = omega arith;
      first_writes = omega arith;
      first_depth = omega arith;
      first_lends = omega arith;
      second_reads = omega arith;
      second_writes = omega arith;
      second_depth = omega arith;
      second_lends = omega arith;
      writes = omega arith;
    }

-- a write port with something added to the word that it holds holds the same address
pub address_added : {W : Type 0} (sum : ℕ → W → W) (o : Port W) → address (added sum o) ≡ address o
address_added sum free = refl
address_added sum (holding x u) = refl

module _ {W : Type 0} (plus : W → W → W) (j : Joint) (a b : Meaning W) where
  -- the ports of the layer
  abbrev pub first_port : ℕ → Port W
  first_port w = added (λ x u. plus u (b.word x)) (a.port w)

  abbrev pub second_port : ℕ → Port W
  second_port w = added (λ x u. plus (a.word x) u) (b.port w)

  -- which half a port is of
  pub which : (q : ℕ) → q < j.first.writes + j.second.writes → Side j.first.writes j.second.writes first_port second_port q
  which q h = side j.first.writes j.second.writes first_port second_port q h

  pub at_first : (q : ℕ) → q < j.first.writes → (xor plus j a b).port q ≡ first_port q
  at_first q h = beside_first j.first.writes first_port second_port q h

  pub at_second : (q i : ℕ) → q ≡ j.first.writes + i → (xor plus j a b).port q ≡ second_port i
  at_second q i e = beside_second j.first.writes first_port second_port q i e

  -- what a port holds, its half holds
  pub held_first : (q x : ℕ) → (xor plus j a b).port q ≡ first_port q → address ((xor plus j a b).port q) ≡ Some x → address (a.port q) ≡ Some x
  held_first q x d e = sym (address_added (λ x u. plus u (b.word x)) (a.port q)) ∙ ap address (sym d) ∙ e

  pub held_second : (q i x : ℕ) → (xor plus j a b).port q ≡ second_port i → address ((xor plus j a b).port q) ≡ Some x → address (b.port i) ≡ Some x
  held_second q i x d e = sym (address_added (λ x u. plus (a.word x) u) (b.port i)) ∙ ap address (sym d) ∙ e

  tidy_live : Numbers j a b → Paired j a b → Tidy a → Tidy b → Tidy (xor plus j a b)
  tidy_live n h s t = record {
    within = λ q x hq e. elim (which q (omega arith)) [
      | of_first m d ↦ (let l = s.within q x (omega arith) (held_first q x d e) in omega arith)
      | of_second i m k d ↦ (let l = t.within i x (omega arith) (held_second q i x d e) in omega arith)
    ];
    apart = λ q q' x hq hq' e e'. elim (which q (omega arith)) [
      | of_first m d ↦ elim (which q' (omega arith)) [
        | of_first m' d' ↦ s.apart q q' x (omega arith) (omega arith) (held_first q x d e) (held_first q' x d' e')
        | of_second i' m' k' d' ↦ absurd (h.apart q i' x m m' (held_first q x d e) (held_second q' i' x d' e'))
      ]
      | of_second i m k d ↦ elim (which q' (omega arith)) [
        | of_first m' d' ↦ absurd (h.apart q' i x m' m (held_first q' x d' e') (held_second q i x d e))
        | of_second i' m' k' d' ↦ (let l = t.apart i i' x (omega arith) (omega arith) (held_second q i x d e) (held_second q' i' x d' e') in omega arith)
      ]
    ];
  }

-- held addresses are those of the halves, which hold none both
pub tidy_layer : {W : Type 0} (plus : W → W → W) (k : Letter) (j : Joint) (a b : Meaning W) → (0 < j.own.depth → Tidy a × Tidy b × Agreed own k j a b × Paired j a b) → Tidy (xor plus j a b)
tidy_layer plus k j a b h = record {
  within = λ q x hq e. (let g = h (live_write j q hq) in (tidy_live plus j a b (numbers k j a b g.2) g.3 g.0 g.1).within q x hq e);
  apart = λ q q' x hq hq' e e'. (let g = h (live_write j q hq) in (tidy_live plus j a b (numbers k j a b g.2) g.3 g.0 g.1).apart q q' x hq hq' e e');
}
