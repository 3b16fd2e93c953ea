use Rattle.std.proofs.Common.{sym, ap, ◌∙◌, arith}
use Rattle.std.proofs.lemmas.List.{get_or_default}
use Rattle.regfile.specs.declared.slot.Slot.{Slot}
use Rattle.regfile.specs.Slots.{vacant}
use Rattle.regfile.proofs.slot.land_all.Goals as goal

pub land-requires : goal.land-requires
land-requires c = λ x e.
    let i = c.loop-slot.slot-index in
    let here = c.slot-item.is ∙ get_or_default c.args.slots.now i c.slot-item.result vacant c.loop-slot-test.true in
    let low = c.requires i x (ap (λ (s : Slot). s.port) (sym here) ∙ e) in
    omega (arith, c.loop-slot.invariant.0)
