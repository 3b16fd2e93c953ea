-- The edge of the layer, from those of its halves: the lemma that its law cites.
use Rattle.std.specs.Prelude.{◌≡◌, ℕ}
use Rattle.std.proofs.Common.{sym, ap, ◌∙◌, arith}
use Rattle.word.specs.declared.Letter.TheVariants.{H}
use Rattle.kinds.specs.declared.bits32.Bits32.{Bits32}
use Rattle.kinds.specs.declared.bits64.Bits64.{Bits64}
use Rattle.node.specs.declared.node.Layer.TheVariants.{Width as own}
use Rattle.memory.specs.Meaning.{Meaning, Port, free, holding, address}
use Rattle.memory.specs.Calls.{Edged, Idle}
use Rattle.joint.specs.declared.sizes.Joint.{Joint}
use Rattle.joint.specs.Piles.{Agreed}
use Rattle.joint.proofs.Piles.{same_layer}
use Rattle.width.specs.Tidy.{held_together}
use Rattle.width.specs.Width.{Paired, together, widened}
use Rattle.width.specs.Words.{wide}

-- what two ports hold together
record Held (o o' : Port Bits32) (x : ℕ) (w : Bits64) : Type 0 where
  low : Bits32
  high : Bits32
  first : o ≡ holding x low
  second : o' ≡ holding x high
  word : wide low high ≡ w

held : (o o' : Port Bits32) (x : ℕ) (w : Bits64) → address o' ≡ address o → together o o' ≡ holding x w → Held o o' x w
held free o' x w e t = let z : ◌≡◌ {A = ℕ} 0 1 = cc in absurd (omega arith)
held (holding y u) free x w e t = let z : ◌≡◌ {A = ℕ} 0 1 = cc in absurd (omega arith)
held (holding y u) (holding z v) x w e t = record { low = u; high = v; first = cc; second = cc; word = cc }

-- the edge of both halves
pub edge_both : (j : Joint) (a b a' b' : Meaning Bits32) → Agreed own H j a b → Paired a b → Edged a a' → Edged b b' → Edged (widened j a b) (widened j a' b') × Paired a' b'
edge_both j a b a' b' g h s t =
    let f = g.matches.fits in
    let r = g.reads in
    let w = g.writes in
    let d = g.depth in (
      record {
        shape = same_layer s.shape t.shape own j;
        landed = λ q x v hq e. (
            let m = held (a.port q) (b.port q) x v (h.ports q (omega arith)) e in
            ap (λ u. wide u (b'.word x)) (s.landed q x m.low (omega arith) m.first)
            ∙ ap (wide m.low) (t.landed q x m.high (omega arith) m.second)
            ∙ m.word);
        kept = λ x hx idle. (
            let first : Idle a x = λ q hq e. idle q (omega arith) (held_together (a.port q) (b.port q) (h.ports q hq) ∙ e) in
            let second : Idle b x = λ q hq e. first q (omega arith) (sym (h.ports q (omega arith)) ∙ e) in
            ap (λ u. wide u (b'.word x)) (s.kept x (omega arith) first) ∙ ap (wide (a.word x)) (t.kept x (omega arith) second));
        used = λ q hq. s.used q (omega arith);
        ports = λ q hq. ap (λ o. together o (b'.port q)) (s.ports q (omega arith));
      },
      record {
        used = λ q hq. (let i = s.shape.reads in t.used q (omega arith) ∙ sym (s.used q (omega arith)));
        ports = λ q hq. (let i = s.shape.writes in ap address (t.ports q (omega arith)) ∙ sym (ap address (s.ports q (omega arith))));
      },
    )
