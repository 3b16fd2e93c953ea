-- The edge of the layer, from those of its halves: the lemma that its law cites.
use Rattle.std.specs.Prelude.{◌≡◌, ℕ, ◌+◌, ◌<◌, List, refl}
use Rattle.std.proofs.Common.{sym, ap, ◌∙◌, arith}
use Rattle.word.specs.declared.Letter.{Letter}
use Rattle.node.specs.declared.node.Layer.TheVariants.{Lvt as own}
use Rattle.memory.specs.Meaning.{Meaning, holding, address}
use Rattle.memory.specs.Calls.{Edged, Idle}
use Rattle.joint.specs.declared.sizes.Joint.{Joint}
use Rattle.joint.specs.Piles.{Agreed}
use Rattle.joint.proofs.Piles.{same_layer}
use Rattle.joint.proofs.Sides.{of_first, of_second, side, beside_first, beside_second}
use Rattle.lvt.specs.declared.Half.{Half}
use Rattle.lvt.specs.Lvt.{Moved, Paired, marked, pick, tabled}

-- no port of A holds an address that the layer has free
pub idle_first : {W : Type 0} (k : Letter) (j : Joint) (marks : List Half) (a b : Meaning W) (x : ℕ) → Agreed own k j a b → Idle (tabled j marks a b) x → Idle a x
idle_first k j marks a b x g idle q hq e =
    let n = g.first.writes in
    let w = g.writes in
    idle q (omega arith) (ap address (beside_first j.first.writes a.port b.port q (omega arith)) ∙ e)

-- no port of B holds an address that the layer has free
pub idle_second : {W : Type 0} (k : Letter) (j : Joint) (marks : List Half) (a b : Meaning W) (x : ℕ) → Agreed own k j a b → Idle (tabled j marks a b) x → Idle b x
idle_second k j marks a b x g idle q hq e =
    let n = g.first.writes in
    let w = g.writes in
    idle (j.first.writes + q) (omega arith) (ap address (beside_second j.first.writes a.port b.port (j.first.writes + q) q refl) ∙ e)

-- the edge of both halves, after the marks have moved
pub edge_both : {W : Type 0} (k : Letter) (j : Joint) (marks marks' : List Half) (a b a' b' : Meaning W) → Agreed own k j a b → Paired a b → Moved a b marks marks' → Edged a a' → Edged b b' → Edged (tabled j marks a b) (tabled j marks' a' b') × Paired a' b'
edge_both k j marks marks' a b a' b' g h v s t =
    let f = g.matches.fits in
    let i = s.shape in
    let l = t.shape in
    let r = g.reads in
    let w = g.writes in
    let d = g.depth in
    let n = g.first.writes in (
      record {
        shape = same_layer i l own j;
        landed = λ q x u hq e. elim (side j.first.writes b.writes a.port b.port q (omega arith)) [
          | of_first c o ↦
              (let held : a.port q ≡ holding x u = sym o ∙ e in
              let c' : q < a.writes = omega arith in
              ap (λ z. pick z (a'.word x) (b'.word x)) (v.first x (q, c', ap address held)) ∙ s.landed q x u c' held)
          | of_second y c z o ↦
              (let held : b.port y ≡ holding x u = sym o ∙ e in
              ap (λ z. pick z (a'.word x) (b'.word x)) (v.second x (y, c, ap address held)) ∙ t.landed y x u c held)
        ];
        kept = λ x hx idle.
            let first = idle_first k j marks a b x g idle in
            let second = idle_second k j marks a b x g idle in
            ap (λ z. pick z (a'.word x) (b'.word x)) (v.kept x first second)
            ∙ ap (λ z. pick (marked marks x) z (b'.word x)) (s.kept x (omega arith) first)
            ∙ ap (λ z. pick (marked marks x) (a.word x) z) (t.kept x (omega arith) second);
        used = λ q hq. s.used q (omega arith);
        ports = λ q hq. elim (side j.first.writes b.writes a.port b.port q (omega arith)) [
          | of_first c o ↦ beside_first j.first.writes a'.port b'.port q c ∙ s.ports q (omega arith)
          | of_second y c z o ↦ beside_second j.first.writes a'.port b'.port q y z ∙ t.ports y c
        ];
      },
      record {
        used = λ q hq. (let e = i.reads in t.used q (omega arith) ∙ sym (s.used q (omega arith)));
        apart = λ q q' x hq hq' e e'. (let z = i.writes in let y = ap address (s.ports q (omega arith)) in let c : ◌≡◌ {A = ℕ} 0 1 = cc in omega arith);
      },
    )
