-- The edge of a layer, from what it does to one that is not void.
use Rattle.std.proofs.Common.{◌<◌, sym, subst}
use Rattle.word.specs.declared.Letter.{Letter}
use Rattle.node.specs.declared.node.Layer.{Layer}
use Rattle.memory.specs.Meaning.{Meaning, Tidy}
use Rattle.memory.specs.Calls.{Edged}
use Rattle.joint.specs.declared.halves.Halves.{Halves}
use Rattle.joint.specs.declared.sizes.Joint.{Joint}
use Rattle.layered.specs.Layered.{InOrder, meant}
use Rattle.joint.specs.Piles.{Agreed}
use Rattle.joint.specs.Halves.{BothEdged}
use Rattle.joint.proofs.Piles.{agreed_still}

-- the edge of a layer that is not void, from what it does to the meanings of its halves
pub edged_live : {A B V W : Type 0} (l : Layer) (k : Letter) (oa : A → Type 0) (ob : B → Type 0) (ma : A → Meaning V) (mb : B → Meaning V) (pairs pairs' : Joint → Meaning V → Meaning V → Type 0) (means means' : Joint → Meaning V → Meaning V → Meaning W) (h h' : Halves A B) → BothEdged oa ob ma mb h h' → 0 < h.joint.own.depth → InOrder l k oa ob ma mb pairs h → ((x : A) → oa x → Tidy (ma x)) → ((x : B) → ob x → Tidy (mb x)) → (Agreed l k h.joint (ma h.a) (mb h.b) → Tidy (ma h.a) → Tidy (mb h.b) → pairs h.joint (ma h.a) (mb h.b) → Edged (ma h.a) (ma h'.a) → Edged (mb h.b) (mb h'.b) → Edged (means h.joint (ma h.a) (mb h.b)) (means' h.joint (ma h'.a) (mb h'.b)) × pairs' h.joint (ma h'.a) (mb h'.b)) → InOrder l k oa ob ma mb pairs' h' × Edged (meant ma mb means h) (meant ma mb means' h')
edged_live l k oa ob ma mb pairs pairs' means means' h h' e live order first second step =
    let o = order live in
    let r = o.ready in
    let s = e.first live r.first in
    let t = e.second live r.second in
    let d = step r.agreed (first h.a r.first) (second h.b r.second) o.paired s.1 t.1 in
    let z = subst (λ (j : Joint). Agreed l k j (ma h'.a) (mb h'.b) × pairs' j (ma h'.a) (mb h'.b) × Edged (means h.joint (ma h.a) (mb h.b)) (means' j (ma h'.a) (mb h'.b))) (sym e.joint)
    (agreed_still s.1.shape t.1.shape r.agreed, d.1, d.0) in
    (λ still. record { ready = record { first = s.0; second = t.0; agreed = z.0 }; paired = z.1 }, z.2)
