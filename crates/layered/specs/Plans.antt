-- The plan of a layer, from those of its halves.
use Rattle.std.proofs.Common.{◌≡◌, subst}
use Rattle.word.specs.declared.Letter.{Letter}
use Rattle.node.specs.declared.node.Layer.{Layer}
use Rattle.node.specs.Nodes.{over}
use Rattle.memory.specs.Meaning.{Meaning, Planned, shaped}
use Rattle.joint.specs.declared.halves.Halves.{Halves}
use Rattle.joint.specs.declared.sizes.Joint.{Joint}
use Rattle.layered.specs.Layered.{InOrder, meant}
use Rattle.joint.specs.Piles.{layer}
use Rattle.joint.proofs.Piles.{planned_layer}

-- a layer in order has the plan of its shape, since its halves have
pub planned_halves : {A B V W : Type 0} (l : Layer) (k k' : Letter) {oa : A → Type 0} {ob : B → Type 0} {ma : A → Meaning V} {mb : B → Meaning V} (pairs : Joint → Meaning V → Meaning V → Type 0) (means : Joint → Meaning V → Meaning V → Meaning W) (h : Halves A B) → (let m = meant ma mb means h in layer l h.joint (ma h.a) (mb h.b) m.word m.used m.port ≡ m) → (over l (shaped k (ma h.a)) (shaped k (mb h.b))).letter ≡ k' → ((x : A) → oa x → Planned k (ma x)) → ((x : B) → ob x → Planned k (mb x)) → InOrder l k oa ob ma mb pairs h → Planned k' (meant ma mb means h)
planned_halves l k k' {ma = ma} {mb} pairs means h framed letter first second order =
    let m = meant ma mb means h in
    subst (λ n. Planned k' n) framed
    (planned_layer l k k' h.joint (ma h.a) (mb h.b) m.word m.used m.port letter
    (λ live. let r = (order live).ready in (first h.a r.first, second h.b r.second, r.agreed)))
