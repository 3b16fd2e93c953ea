use Rattle.std.proofs.Common.{reverse, refl, ap, ◌∙◌, arith}
use Rattle.std.proofs.lemmas.List.{reverse-append}
use Rattle.std.proofs.lemmas.Result.{err_from_is_err_and}
use Rattle.node.proofs.Stacking.{fitted, two_on_top, unfit}
use Rattle.wiring.specs.Parts.{shapes}
use Rattle.wiring.proofs.stack.join.Goals as goal

pub returns-in_err-shape : goal.returns-in_err-shape
returns-in_err-shape c =
    let fault = err_from_is_err_and c.from_residual.result c.from_residual.ensures.1 in
    let why = unfit _ _ _ c.over.result c.over.ensures c.in_err-shape.ensures.value in
    let pops = c.in-Some-Some in
    rw (fault.1, fault.2, why.0) (c.args.layer, _, _, _, refl, ap shapes (two_on_top _ _ _ _ _ pops.ensures.items pops.ensures'.items), why.1)

pub returns : goal.returns
returns c =
    let fit = fitted _ _ _ c.over.result c.over.ensures c.in_ok-shape.ensures.value in
    let pops = c.in-Some-Some in
    record {
      rest = _;
      halves = two_on_top _ _ _ _ _ pops.ensures.items pops.ensures'.items;
      fits = fit.0;
      layer = refl;
      own = λ i. record { root = c.args.node; shape = fit.1 i };
      after = ap reverse c.push.ensures.items ∙ reverse-append c.pop-2.new.self.items _;
      count = omega (arith, pops.ensures.len, pops.ensures'.len, c.push.ensures.len);
    }
