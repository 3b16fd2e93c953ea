use Rattle.std.proofs.Common.{[], ◌∷◌, reverse, refl, ap, ◌∙◌, arith}
use Rattle.std.proofs.lemmas.List.{reverse-append}
use Rattle.std.proofs.lemmas.Result.{err_from_is_err_and}
use Rattle.node.proofs.Stacking.{fitted, two_on_top, unfit}
use Rattle.node.proofs.stack.join.Goals as goal

pub returns-in_err-shape : goal.returns-in_err-shape
returns-in_err-shape c =
    let fault = err_from_is_err_and c.from_residual.result c.from_residual.ensures.1 in
    let why = unfit _ _ _ c.over.result c.over.ensures c.in_err-shape.ensures.value in
    let pops = c.in-Some-Some in
    rw (fault.1, fault.2, why.0) (c.args.layer, _, _, _, refl, two_on_top _ _ _ _ _ pops.ensures.items pops.ensures'.items, why.1)

pub returns : goal.returns
returns c =
    let fit = fitted _ _ _ c.over.result c.over.ensures c.in_ok-shape.ensures.value in
    let pops = c.in-Some-Some in (
      (_, _, _, two_on_top _ _ _ _ _ pops.ensures.items pops.ensures'.items, fit.0, ap reverse c.push.ensures.items ∙ reverse-append c.pop-2.new.self.items (c.in_ok-shape.shape ∷ []) ∙ ap (λ s. s ∷ reverse c.pop-2.new.self.items) fit.1),
      omega (arith, pops.ensures.len, pops.ensures'.len, c.push.ensures.len),
    )
