-- The ports of the layer are tidy where those of its halves are: the lemma that its law cites.
use Rattle.std.specs.Prelude.{◌≡◌, ℕ, ◌+◌, ◌<◌, ◌⊎◌, Some, refl}
use Rattle.std.proofs.Common.{ap, ◌∙◌, inl, inr, arith}
use Rattle.word.specs.declared.Letter.{Letter}
use Rattle.node.specs.declared.node.Layer.TheVariants.{Depth as own}
use Rattle.memory.specs.Meaning.{Meaning, Port, free, holding, address, Tidy}
use Rattle.joint.specs.declared.sizes.Joint.{Joint}
use Rattle.joint.specs.Piles.{Agreed}
use Rattle.joint.proofs.Piles.{live_write}
use Rattle.depth.specs.Depth.{deepened, stacked}

-- an address that a port of the layer holds is A's, or B's raised
stacked_held : {W : Type 0} (d : ℕ) (o o' : Port W) (x : ℕ) → address (stacked d o o') ≡ Some x → (address o ≡ Some x) ⊎ ((y : ℕ) × ((address o' ≡ Some y) × (x ≡ d + y)))
stacked_held d (holding y w) o' x e = inl e
stacked_held d free (holding y w) x e = inr (y, (refl, (cc)))
stacked_held d free free x e = let z : ◌≡◌ {A = ℕ} 0 1 = cc in absurd (omega arith)

-- A's held addresses are below its depth, B's raised ones are not
pub tidy_layer : {W : Type 0} (k : Letter) (j : Joint) (a b : Meaning W) → (0 < j.own.depth → Tidy a × Tidy b × Agreed own k j a b) → Tidy (deepened j a b)
tidy_layer k j a b h = record {
  within = λ q x hq e. (
      let g = h (live_write j q hq) in
      let f = g.2.matches.fits in
      let d = g.2.depth in
      let w = g.2.writes in
      let n = g.2.first.depth in
      elim (stacked_held j.first.depth (a.port q) (b.port q) x e) [
        | inl i ↦ (let t = g.0.within q x (omega arith) i in omega arith)
        | inr i ↦ (let t = g.1.within q i.0 (omega arith) i.1.0 in let y = i.1.1 in omega arith)
      ]);
  apart = λ q q' x hq hq' e e'. (
      let g = h (live_write j q hq) in
      let f = g.2.matches.fits in
      let w = g.2.writes in
      let n = g.2.first.depth in
      elim (stacked_held j.first.depth (a.port q) (b.port q) x e) [
        | inl i ↦ elim (stacked_held j.first.depth (a.port q') (b.port q') x e') [
          | inl i' ↦ g.0.apart q q' x (omega arith) (omega arith) i i'
          | inr i' ↦ (let t = g.0.within q x (omega arith) i in let y = i'.1.1 in absurd (omega arith))
        ]
        | inr i ↦ elim (stacked_held j.first.depth (a.port q') (b.port q') x e') [
          | inl i' ↦ (let t = g.0.within q' x (omega arith) i' in let y = i.1.1 in absurd (omega arith))
          | inr i' ↦ (let y : i'.0 ≡ i.0 = (let u = i.1.1 in let u' = i'.1.1 in omega arith) in g.1.apart q q' i.0 (omega arith) (omega arith) i.1.0 (i'.1.0 ∙ ap Some y))
        ]
      ]);
}
