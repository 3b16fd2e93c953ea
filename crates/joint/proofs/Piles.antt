-- The plan and the numbers of a layer, from those of its halves.
use Rattle.std.proofs.Common.{◌≡◌, ℕ, ◌+◌, ◌<◌, Bool, ltb, List, [], ◌∷◌, ◌++◌, length, sym, refl, ap, ◌∙◌, subst, inl, inr, arith, length-append, le-ltb, lt-ltb}
use Rattle.std.proofs.lemmas.Bool.{cases_lt, cond-true, cond-false}
use Rattle.word.specs.declared.Letter.{Letter}
use Rattle.node.specs.declared.node.Layer.{Layer}
use Rattle.node.specs.declared.node.Node.{Node}
use Rattle.node.specs.declared.node.Node.TheVariants.{Layer as layer_node}
use Rattle.node.specs.declared.shape.Shape.{Shape}
use Rattle.node.specs.Nodes.{over}
use Rattle.node.specs.Nodes as nodes
use Rattle.node.specs.Plans.{Plan, layered}
use Rattle.memory.specs.Meaning.{Meaning, Port, Planned, whole, void, SameShape, shaped}
use Rattle.joint.specs.declared.sizes.Joint.{Joint}
use Rattle.joint.specs.Fits.{Matches}
use Rattle.joint.specs.Piles.{Agreed, pile, piled, layer}

-- the plan of a layer that is not void
pub piled_live : (l : Layer) (j : Joint) (p q : List Node) → 0 < j.own.depth → piled l j p q ≡ pile l p q
piled_live l j p q h = cond-true (ltb 0 j.own.depth) (pile l p q) [] (lt-ltb 0 j.own.depth h)

-- a void layer's plan
pub piled_void : (l : Layer) (j : Joint) (p q : List Node) → j.own.depth ≡ 0 → piled l j p q ≡ []
piled_void l j p q e = cond-false (ltb 0 j.own.depth) (pile l p q) [] (le-ltb 0 j.own.depth (omega arith))

pile_length : (l : Layer) (p q : List Node) → length (pile l p q) ≡ length p + length q + 1
pile_length l p q = omega (arith, length-append p (q ++ (layer_node l ∷ [])), length-append q (layer_node l ∷ []))

-- a layer with a read port is not void
pub live_read : (j : Joint) (p : ℕ) → p < j.own.reads → 0 < j.own.depth
live_read j p h = elim (cases_lt 0 j.own.depth) [ inl k ↦ k | inr k ↦ (let v = j.void (omega arith) in absurd (omega arith)) ]

-- a layer with a write port is not void
pub live_write : (j : Joint) (p : ℕ) → p < j.own.writes → 0 < j.own.depth
live_write j p h = elim (cases_lt 0 j.own.depth) [ inl k ↦ k | inr k ↦ (let v = j.void (omega arith) in absurd (omega arith)) ]

-- the plan of a layer is that of its shape, since those of its halves are
pub planned_layer : {V W : Type 0} (l : Layer) (k k' : Letter) (j : Joint) (a b : Meaning V) (word : ℕ → W) (used : ℕ → Bool) (port : ℕ → Port W) → (over l (shaped k a) (shaped k b)).letter ≡ k' → (0 < j.own.depth → Planned k a × Planned k b × Agreed l k j a b) → Planned k' (layer l j a b word used port)
planned_layer l k k' j a b word used port letter h =
    elim (cases_lt 0 j.own.depth) [
      | inl live ↦ go live (h live).0 (h live).1 (h live).2
      | inr none ↦ (let v = j.void (omega arith) in void (piled_void l j a.plan b.plan (omega arith)) v.0 v.1 (omega arith))
    ]
  where
    go : 0 < j.own.depth → Planned k a → Planned k b → Agreed l k j a b → Planned k' (layer l j a b word used port)
    go live (whole p) (whole q) g =
        let plan = piled_live l j a.plan b.plan live in
        let shape : over l (shaped k a) (shaped k b) ≡ shaped k' (layer l j a b word used port) = λ i. record { letter = letter i; reads = sym g.reads i; writes = sym g.writes i; depth = sym g.depth i } in
        let few = g.matches.few in
        whole (
          omega (arith, few, ap length plan, pile_length l a.plan b.plan),
          subst (λ s. Plan (piled l j a.plan b.plan) s) shape (subst (λ ns. Plan ns (over l (shaped k a) (shaped k b))) (sym plan) (layered l p.1 q.1 g.matches.fits)),
        )
    go live (whole p) (void n r w d) g = absurd (let s = g.matches.second in omega arith)
    go live (void n r w d) q g = absurd (let s = g.matches.first in omega arith)

-- halves that keep their shapes
module _ {V : Type 0} {a b a' b' : Meaning V} (s : SameShape a a') (t : SameShape b b') where
  shaped_first : (k : Letter) → shaped k a' ≡ shaped k a
  shaped_first k = λ i. record { letter = k; reads = s.reads i; writes = s.writes i; depth = s.depth i }

  shaped_second : (k : Letter) → shaped k b' ≡ shaped k b
  shaped_second k = λ i. record { letter = k; reads = t.reads i; writes = t.writes i; depth = t.depth i }

  -- still fit
  pub matches_still : {l : Layer} {k : Letter} → Matches l k a b → Matches l k a' b'
  matches_still {l} {k} m = record {
    first = let h = m.first in let d = s.depth in omega arith;
    second = let h = m.second in let d = t.depth in omega arith;
    few = let h = m.few in omega (arith, h, ap length s.plan, ap length t.plan);
    fits = subst (λ x. nodes.Fits l x (shaped k b')) (sym (shaped_first k)) (subst (λ y. nodes.Fits l (shaped k a) y) (sym (shaped_second k)) m.fits);
  }

  -- make the same shape
  over_still : (l : Layer) (k : Letter) → over l (shaped k a') (shaped k b') ≡ over l (shaped k a) (shaped k b)
  over_still l k = λ i. over l (shaped_first k i) (shaped_second k i)

  -- go on with the layer's numbers
  pub agreed_still : {l : Layer} {k : Letter} {j : Joint} → Agreed l k j a b → Agreed l k j a' b'
  agreed_still {l} {k} g = record {
    matches = matches_still g.matches;
    first = record { reads = g.first.reads ∙ sym s.reads; writes = g.first.writes ∙ sym s.writes; depth = g.first.depth ∙ sym s.depth; nodes = g.first.nodes ∙ ap length (sym s.plan) };
    second = record { reads = g.second.reads ∙ sym t.reads; writes = g.second.writes ∙ sym t.writes; depth = g.second.depth ∙ sym t.depth; nodes = g.second.nodes ∙ ap length (sym t.plan) };
    reads = g.reads ∙ ap (λ (x : Shape). x.reads) (sym (over_still l k));
    writes = g.writes ∙ ap (λ (x : Shape). x.writes) (sym (over_still l k));
    depth = g.depth ∙ ap (λ (x : Shape). x.depth) (sym (over_still l k));
    nodes = omega (arith, g.nodes, ap length s.plan, ap length t.plan);
  }

  -- leave the layer's shape
  pub same_layer : {W : Type 0} (l : Layer) (j : Joint) {word word' : ℕ → W} {used used' : ℕ → Bool} {port port' : ℕ → Port W} → SameShape (layer l j a b word used port) (layer l j a' b' word' used' port')
  same_layer l j = record { reads = refl; writes = refl; depth = refl; plan = λ i. piled l j (s.plan i) (t.plan i) }
