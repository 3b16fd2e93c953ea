use Rattle.std.proofs.Common.{length, reverse, ◌≡◌, sym, subst, arith}
use Rattle.node.specs.Plans.{Plans}
use Rattle.node.proofs.Stacking.{one_left}
use Rattle.node.proofs.verdict.judge.Goals as goal

pub returns-in-len1 : goal.returns-in-len1
returns-in-len1 c =
    let plans = c.in_ok-stack.ensures.0 in
    let one : length c.as_slice.result.now ≡ 1 = omega arith in
    ((omega arith, one_left c.as_slice.result.now _ (subst (λ xs. Plans c.args.nodes.now (reverse xs)) (sym c.as_slice.ensures.value) plans) one), c.macros.ensures)
