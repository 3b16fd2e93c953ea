use Rattle.std.proofs.Common.{◌≡◌, ◌+◌, ◌≤◌, ℕ, List, Ok, Err, Result, MatchResult, is_ok, true, take, drop, sym, refl, ap, subst, arith, rules}
use Rattle.std.proofs.lemmas.List.{length-take-le, take_more, take_all}
use Rattle.std.proofs.lemmas.Result.{err_from_is_err_and}
use Rattle.arrayvec.specs.ArrayVec.{ArrayVec, array_vec_len}
use Rattle.node.specs.declared.faults.CheckFault.{CheckFault}
use Rattle.node.specs.declared.faults.NodeFault.{NodeFault}
use Rattle.node.specs.declared.node.Node.{Node}
use Rattle.node.specs.declared.shape.Shape.{Shape}
use Rattle.node.specs.Plans.{Plans, none}
use Rattle.node.specs.Stacks.{held, Added, Taken}
use Rattle.node.proofs.Stacking.{plans_more, split_at}
use Rattle.node.proofs.verdict.stacked.Goals as goal

pub loop-i-init : goal.loop-i-init
loop-i-init c = rw c.new-stack.ensures (none, omega arith)

-- what the answer to a node was, if the check stops there
stopped : (r : Result Unit NodeFault) (f : CheckFault) (Q : NodeFault → Type 0) → MatchResult r (λ x. ◌≡◌ {A = Result Unit CheckFault} (Err f) (Ok x)) Q → (why : NodeFault) × (r ≡ Err why) × Q why
stopped (Ok x) f Q is = absurd (cc)
stopped (Err why) f Q is = (why, refl, is)

-- and if it goes on
gone_on : (old : ArrayVec Shape) (n : Node) (new : ArrayVec Shape) (r : Result Unit NodeFault) → Added old n new r → true ≡ is_ok r → Taken (held old) n (held new) × (array_vec_len new ≤ array_vec_len old + 1)
gone_on old n new (Ok x) added is = added
gone_on old n new (Err why) added is = absurd (cc)

pub returns-in_err-map_err : goal.returns-in_err-map_err
returns-in_err-map_err c =
    let fault = err_from_is_err_and c.from_residual.result c.from_residual.ensures.1 in
    let why = stopped c.add.result c.in_err-map_err.field-0.0 _ c.in_err-map_err.ensures.cases in
    let ns = c.args.nodes.now in
    let i = c.loop-i.i-counter in
    rw (fault.1, fault.2) (
      i + 1,
      why.0,
      search (rules, why.2),
      record {
        before = take i ns;
        node = _;
        after = drop (i + 1) ns;
        shapes = held c.loop-i.stack;
        split = split_at ns i _ (search rules);
        here = ap (λ (k : ℕ). k + 1) (sym (length-take-le i ns (search rules)));
        taken = c.loop-i.invariant.0;
        refused = subst (Added c.loop-i.stack _ c.add.new.stack) why.1 c.add.ensures;
      },
    )

pub loop-i-preserved : goal.loop-i-preserved
loop-i-preserved c =
    let ns = c.args.nodes.now in
    let on = gone_on c.loop-i.stack _ c.add.new.stack c.add.result c.add.ensures c.in_ok-map_err.ensures.variant in (
      subst (λ (qs : List Node). Plans qs (held c.add.new.stack)) (sym (take_more ns c.loop-i.i-counter _ c.loop-i-test.true)) (plans_more _ c.loop-i.invariant.0 on.0),
      omega (arith, on.1, c.loop-i.invariant.1),
    )

pub returns : goal.returns
returns c = (subst (λ (qs : List Node). Plans qs (held c.loop-i.stack)) (take_all c.loop-i.i-counter c.args.nodes.now c.loop-i-test.false) c.loop-i.invariant.0, omega arith)
