-- What a start and a write leave of the layer, from what they leave of its halves.
use Rattle.std.specs.Prelude.{◌≡◌, ℕ, ◌+◌, ◌<◌, List, Ok, Err, Result, refl}
use Rattle.std.proofs.Common.{sym, ap, subst, ◌∙◌, inl, inr, arith}
use Rattle.std.proofs.lemmas.Bool.{cases_eq}
use Rattle.word.specs.declared.Letter.{Letter}
use Rattle.node.specs.declared.node.Layer.TheVariants.{Lvt as own}
use Rattle.memory.specs.declared.refusal.Refusal.{Refusal}
use Rattle.memory.specs.Meaning.{Meaning, address, Cleared, SameShape}
use Rattle.memory.specs.Calls.{MayWrite, Stored, Write}
use Rattle.memory.proofs.Accepted.{not_both_writes}
use Rattle.joint.specs.declared.sizes.Joint.{Joint}
use Rattle.joint.specs.Piles.{Agreed}
use Rattle.joint.proofs.Piles.{agreed_still, same_layer}
use Rattle.joint.proofs.Sides.{of_first, of_second, side, beside_first, beside_second}
use Rattle.lvt.specs.declared.Half.{Half}
use Rattle.lvt.specs.declared.Half.TheVariants.{First, Second}
use Rattle.lvt.specs.Lvt.{Paired, marked, pick, tabled}
use Rattle.lvt.specs.Edges.{idle_first, idle_second}

-- a configured layer is clear, whatever its marks are
pub clear_layer : {W : Type 0} (k : Letter) (zero : W) (j : Joint) (marks : List Half) (a b : Meaning W) → Agreed own k j a b → Cleared zero a → Cleared zero b → Cleared zero (tabled j marks a b) × Paired a b
clear_layer {W} k zero j marks a b g s t =
    let f = g.matches.fits in
    let r = g.reads in
    let w = g.writes in
    let d = g.depth in
    let n = g.first.writes in (
      record {
        words = λ x hx. both (marked marks x) (s.words x (omega arith)) (t.words x (omega arith));
        used = λ q hq. s.used q (omega arith);
        ports = λ q hq. elim (side j.first.writes b.writes a.port b.port q (omega arith)) [
          | of_first c e ↦ e ∙ s.ports q (omega arith)
          | of_second o c z e ↦ e ∙ t.ports o c
        ];
      },
      record {
        used = λ q hq. t.used q (omega arith) ∙ sym (s.used q hq);
        apart = λ q q' x hq hq' e e'. (let y = ap address (s.ports q hq) in let c : ◌≡◌ {A = ℕ} 0 1 = cc in omega arith);
      },
    )
  where
    both : (h : Half) {u v : W} → u ≡ zero → v ≡ zero → pick h u v ≡ zero
    both First e f = e
    both Second e f = f

same_shape : {W : Type 0} (m : Meaning W) → SameShape m m
same_shape m = record { reads = refl; writes = refl; depth = refl; plan = refl }

-- a write through a port of A
pub write_first : {W : Type 0} (k : Letter) (j : Joint) (marks : List Half) (a b a' : Meaning W) (p o x : ℕ) (w : W) (r : Result (Unit {0}) Refusal) → Agreed own k j a b → Paired a b → MayWrite (tabled j marks a b) p x (Ok tt) → (p < j.first.writes) × (o ≡ p) → Write a o x w r a' → Agreed own k j a' b × Paired a' b
write_first k j marks a b a' p o x w (Err e) g h m at t =
    let n = g.first.writes in
    let d = g.depth in
    absurd (not_both_writes a p x e (omega arith, omega arith, sym (beside_first j.first.writes a.port b.port p at.0) ∙ m.2, idle_first k j marks a b x g m.3) (subst (λ (q : ℕ). MayWrite a q x (Err e)) at.1 t.0))
write_first k j marks a b a' p o x w (Ok u) g h m at t =
    let s = subst (λ (q : ℕ). Stored a a' q x w) at.1 t.1 in
    let i = s.words.shape in
    let r = g.reads in
    let z = g.writes in
    let d = g.depth in
    let n = g.first.writes in (
      agreed_still i (same_shape b) g,
      record {
        used = λ q hq. (let l = i.reads in h.used q (omega arith) ∙ sym (s.used q (omega arith)));
        apart = λ q q' y hq hq' e e'. (let l = i.writes in
            elim (cases_eq q p) [
              | inl f ↦ idle_second k j marks a b x g m.3 q' hq' (e' ∙ sym e ∙ ap (λ v. address (a'.port v)) f ∙ ap address s.here)
              | inr ne ↦ h.apart q q' y (omega arith) hq' (ap address (sym (s.ports q (omega arith) ne)) ∙ e) e'
            ]);
      },
    )

-- a write through a port of B
pub write_second : {W : Type 0} (k : Letter) (j : Joint) (marks : List Half) (a b b' : Meaning W) (p o x : ℕ) (w : W) (r : Result (Unit {0}) Refusal) → Agreed own k j a b → Paired a b → MayWrite (tabled j marks a b) p x (Ok tt) → p ≡ j.first.writes + o → Write b o x w r b' → Write (tabled j marks a b) p x w r (tabled j marks a b')
write_second k j marks a b b' p o x w (Err e) g h m c t =
    let f = g.matches.fits in
    let z = g.writes in
    let n = g.first.writes in
    let d = g.depth in
    absurd (not_both_writes b o x e (omega arith, omega arith, sym (beside_second j.first.writes a.port b.port p o c) ∙ m.2, idle_second k j marks a b x g m.3) t.0)
write_second k j marks a b b' p o x w (Ok u) g h m c t =
    let s = t.1 in
    let f = g.matches.fits in
    let r = g.reads in
    let z = g.writes in
    let d = g.depth in
    let n = g.first.writes in (
      m,
      record {
        words = record {
          shape = same_layer (same_shape a) s.words.shape own j;
          words = λ y hy. ap (λ v. pick (marked marks y) (a.word y) v) (s.words.words y (omega arith));
        };
        used = λ q hq. refl;
        here = beside_second j.first.writes a.port b'.port p o c ∙ s.here;
        ports = λ q hq ne. elim (side j.first.writes b.writes a.port b.port q (omega arith)) [
          | of_first l e ↦ beside_first j.first.writes a.port b'.port q l ∙ sym e
          | of_second o' l v e ↦ beside_second j.first.writes a.port b'.port q o' v ∙ s.ports o' l (λ same. ne (omega arith)) ∙ sym e
        ];
      },
    )
