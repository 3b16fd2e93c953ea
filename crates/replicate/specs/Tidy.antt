-- What holds of the layer, from what holds of its halves: the lemmas that its laws cite.
use Rattle.std.specs.Prelude.{◌≡◌, ℕ, ◌<◌}
use Rattle.std.proofs.Common.{sym, ap, ◌∙◌, inl, inr, arith}
use Rattle.word.specs.declared.Letter.{Letter}
use Rattle.node.specs.declared.node.Layer.TheVariants.{Replicate as own}
use Rattle.memory.specs.Meaning.{Meaning, Tidy, address}
use Rattle.memory.specs.Calls.{Edged}
use Rattle.memory.proofs.Holds.{holds_or_idle}
use Rattle.joint.specs.declared.sizes.Joint.{Joint}
use Rattle.joint.specs.Piles.{Agreed}
use Rattle.joint.proofs.Piles.{live_write, same_layer}
use Rattle.joint.proofs.Sides.{of_first, of_second, side, beside_first, beside_second}
use Rattle.replicate.specs.Replicate.{Paired, replicated}

-- A's held addresses are the layer's
pub tidy_layer : {W : Type 0} (k : Letter) (j : Joint) (a b : Meaning W) → (0 < j.own.depth → Tidy a × Agreed own k j a b) → Tidy (replicated j a b)
tidy_layer k j a b h = record {
  within = λ q x hq e. (let g = h (live_write j q hq) in let d = g.1.depth in let w = g.1.writes in let t = g.0.within q x (omega arith) e in omega arith);
  apart = λ q q' x hq hq' e e'. (let g = h (live_write j q hq) in let w = g.1.writes in g.0.apart q q' x (omega arith) (omega arith) e e');
}

-- the same words land in both halves
words_land : {W : Type 0} (k : Letter) (j : Joint) (a b a' b' : Meaning W) → Agreed own k j a b → Paired a b → Edged a a' → Edged b b' → (y : ℕ) → y < a.depth → b'.word y ≡ a'.word y
words_land k j a b a' b' g h s t y hy =
    let f = g.matches.fits in
    elim (holds_or_idle a y) [
      | inl held ↦
          t.landed held.0 y held.1.0 (let l = held.1.1.0 in omega arith) (h.ports held.0 held.1.1.0 ∙ held.1.1.1)
          ∙ sym (s.landed held.0 y held.1.0 held.1.1.0 held.1.1.1)
      | inr idle ↦
          t.kept y (omega arith) (λ q hq e. let hq' : q < a.writes = omega arith in idle q hq' (ap address (sym (h.ports q hq')) ∙ e))
          ∙ h.words y hy
          ∙ sym (s.kept y hy idle)
    ]

-- the edge of both halves
pub edged_layer : {W : Type 0} (k : Letter) (j : Joint) (a b a' b' : Meaning W) → Agreed own k j a b → Paired a b → Edged a a' → Edged b b' → Edged (replicated j a b) (replicated j a' b') × Paired a' b'
edged_layer k j a b a' b' g h s t =
    let f = g.matches.fits in
    let i = s.shape in
    let l = t.shape in
    let r = g.reads in
    let w = g.writes in
    let d = g.depth in
    let n = g.first.reads in (
      record {
        shape = same_layer i l own j;
        landed = λ q x v hq e. s.landed q x v (omega arith) e;
        kept = λ x hx idle. s.kept x (omega arith) (λ q hq e. idle q (omega arith) e);
        used = λ q hq. elim (side j.first.reads b.reads a.used b.used q (omega arith)) [
          | of_first m _ ↦ beside_first j.first.reads a'.used b'.used q m ∙ s.used q (omega arith)
          | of_second o m e _ ↦ beside_second j.first.reads a'.used b'.used q o e ∙ t.used o m
        ];
        ports = λ q hq. s.ports q (omega arith);
      },
      record {
        words = λ y hy. (let e = i.depth in words_land k j a b a' b' g h s t y (omega arith));
        ports = λ q hq. (let e = i.writes in t.ports q (omega arith) ∙ sym (s.ports q (omega arith)));
      },
    )
