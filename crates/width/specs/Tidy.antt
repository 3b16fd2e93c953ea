-- The ports of the layer are tidy where those of its halves are: the lemma that its law cites.
use Rattle.std.specs.Prelude.{◌≡◌, refl, ℕ, ◌<◌}
use Rattle.std.proofs.Common.{sym, ◌∙◌, arith}
use Rattle.word.specs.declared.Letter.TheVariants.{H}
use Rattle.kinds.specs.declared.bits32.Bits32.{Bits32}
use Rattle.node.specs.declared.node.Layer.TheVariants.{Width as own}
use Rattle.memory.specs.Meaning.{Meaning, Port, free, holding, address, Tidy}
use Rattle.joint.specs.declared.sizes.Joint.{Joint}
use Rattle.joint.specs.Piles.{Agreed}
use Rattle.joint.proofs.Piles.{live_write}
use Rattle.width.specs.Width.{Paired, together, widened}

-- ports that hold the same address hold it together
pub held_together : (o o' : Port Bits32) → address o' ≡ address o → address (together o o') ≡ address o
held_together free o' e = refl
held_together (holding x u) free e = let z : ◌≡◌ {A = ℕ} 0 1 = cc in absurd (omega arith)
held_together (holding x u) (holding y v) e = refl

-- A's held addresses are the layer's
pub tidy_layer : (j : Joint) (a b : Meaning Bits32) → (0 < j.own.depth → Tidy a × Agreed own H j a b × Paired a b) → Tidy (widened j a b)
tidy_layer j a b h = record {
  within = λ q x hq e. (
      let g = h (live_write j q hq) in
      let d = g.1.depth in
      let w = g.1.writes in
      let t = g.0.within q x (omega arith) (sym (held_together (a.port q) (b.port q) (g.2.ports q (omega arith))) ∙ e) in
      omega arith);
  apart = λ q q' x hq hq' e e'. (
      let g = h (live_write j q hq) in
      let w = g.1.writes in
      g.0.apart q q' x (omega arith) (omega arith)
      (sym (held_together (a.port q) (b.port q) (g.2.ports q (omega arith))) ∙ e)
      (sym (held_together (a.port q') (b.port q') (g.2.ports q' (omega arith))) ∙ e'));
}
