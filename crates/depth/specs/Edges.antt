-- What holds of the layer, from what holds of its halves.
use Rattle.std.specs.Prelude.{◌≡◌, ℕ, ◌+◌, ◌<◌, Bool, ◌||◌, ◌⊎◌, Some}
use Rattle.std.proofs.Common.{sym, ap, ◌∙◌, inl, inr, arith}
use Rattle.word.specs.declared.Letter.{Letter}
use Rattle.node.specs.declared.node.Layer.TheVariants.{Depth as own}
use Rattle.memory.specs.Meaning.{Meaning, Port, free, holding, address, Tidy}
use Rattle.memory.specs.Calls.{Idle, Edged}
use Rattle.memory.proofs.Holds.{port_cases}
use Rattle.joint.specs.declared.sizes.Joint.{Joint}
use Rattle.joint.specs.Beside.{beside}
use Rattle.joint.specs.Piles.{Agreed}
use Rattle.joint.proofs.Piles.{same_layer}
use Rattle.joint.proofs.Sides.{of_first, of_second, side, beside_first, beside_second}
use Rattle.depth.specs.Depth.{Paired, deepened, stacked}

-- what a port of the layer holds is A's, or B's raised
stacked_cases : {W : Type 0} (d : ℕ) (o o' : Port W) (x : ℕ) (v : W) → stacked d o o' ≡ holding x v → (o ≡ holding x v) ⊎ ((y : ℕ) × ((o' ≡ holding y v) × (x ≡ d + y)))
stacked_cases d (holding y w) o' x v e = inl e
stacked_cases d free (holding y w) x v e = inr (y, ((cc), (cc)))
stacked_cases d free free x v e = let z : ◌≡◌ {A = ℕ} 0 1 = cc in absurd (omega arith)

-- an address that A's port holds
held_first : {W : Type 0} (d : ℕ) (o o' : Port W) (x : ℕ) → address o ≡ Some x → address (stacked d o o') ≡ Some x
held_first d (holding y w) o' x e = e
held_first d free o' x e = let z : ◌≡◌ {A = ℕ} 0 1 = cc in absurd (omega arith)

-- an address that B's port holds, where A's is free
held_second : {W : Type 0} (d : ℕ) (o o' : Port W) (y : ℕ) → o ≡ free → address o' ≡ Some y → address (stacked d o o') ≡ Some (d + y)
held_second d (holding x w) o' y f e = let z : ◌≡◌ {A = ℕ} 0 1 = cc in absurd (omega arith)
held_second d free (holding x w) y f e = let same : x ≡ y = cc in ap (λ (u : ℕ). Some (d + u)) same
held_second d free free y f e = let z : ◌≡◌ {A = ℕ} 0 1 = cc in absurd (omega arith)

-- halves in order, by their meanings
module _ {W : Type 0} (k : Letter) (j : Joint) (a b : Meaning W) (g : Agreed own k j a b) (h : Paired a b) where
  -- where B's port holds, A's is free
  first_free : (q y : ℕ) → q < a.writes → address (b.port q) ≡ Some y → a.port q ≡ free
  first_free q y hq e = elim (port_cases (a.port q)) [
    | inl f ↦ f
    | inr n ↦ (let f = ap address (h.ports q n.0 n.1.0 hq n.1.1) in let z : ◌≡◌ {A = ℕ} 0 1 = cc in absurd (omega arith))
  ]

  -- no port of A holds an address that no port of the layer holds
  idle_first : (x : ℕ) → Idle (deepened j a b) x → Idle a x
  idle_first x i q hq e = let w = g.writes in i q (omega arith) (held_first j.first.depth (a.port q) (b.port q) x e)

  -- no port of B holds one either
  idle_second : (x y : ℕ) → x ≡ j.first.depth + y → Idle (deepened j a b) x → Idle b y
  idle_second x y u i q hq e =
      let w = g.writes in
      let f = g.matches.fits in
      i q (omega arith) (held_second j.first.depth (a.port q) (b.port q) y (first_free q y (omega arith) e) e ∙ ap Some (sym u))

  -- a held word lands in its half
  words_land : (a' b' : Meaning W) → Tidy a → Edged a a' → Edged b b' → (q x : ℕ) (v : W) → q < a.writes → stacked j.first.depth (a.port q) (b.port q) ≡ holding x v → beside j.first.depth a'.word b'.word x ≡ v
  words_land a' b' tidy s t q x v hq e =
      let f = g.matches.fits in
      let n = g.first.depth in
      elim (stacked_cases j.first.depth (a.port q) (b.port q) x v e) [
        | inl i ↦ (let u = tidy.within q x hq (ap address i) in beside_first j.first.depth a'.word b'.word x (omega arith) ∙ s.landed q x v hq i)
        | inr i ↦ beside_second j.first.depth a'.word b'.word x i.0 i.1.1 ∙ t.landed q i.0 v (omega arith) i.1.0
      ]

  -- the edge of both halves
  pub edge_both : (a' b' : Meaning W) → Tidy a → Edged a a' → Edged b b' → Edged (deepened j a b) (deepened j a' b') × Paired a' b'
  edge_both a' b' tidy s t =
      let f = g.matches.fits in
      let n = g.first.depth in
      let d = g.depth in
      let l = g.reads in
      let w = g.writes in (
        record {
          shape = same_layer s.shape t.shape own j;
          landed = λ q x v hq e. words_land a' b' tidy s t q x v (omega arith) e;
          kept = λ x hx idle. elim (side j.first.depth b.depth a.word b.word x (omega arith)) [
            | of_first m e ↦ beside_first j.first.depth a'.word b'.word x m ∙ s.kept x (omega arith) (idle_first x idle) ∙ sym e
            | of_second y m i e ↦ beside_second j.first.depth a'.word b'.word x y i ∙ t.kept y m (idle_second x y i idle) ∙ sym e
          ];
          used = λ q hq. ap (λ (v : Bool). v || b'.used q) (s.used q (omega arith)) ∙ t.used q (omega arith);
          ports = λ q hq. ap (λ (o : Port W). stacked j.first.depth o (b'.port q)) (s.ports q (omega arith)) ∙ ap (λ (o : Port W). stacked j.first.depth free o) (t.ports q (omega arith));
        },
        record {
          used = λ q hq _. (let i = s.shape.reads in t.used q (omega arith));
          ports = λ q z v hq _. (let i = s.shape.writes in t.ports q (omega arith));
        },
      )
