use Rattle.std.proofs.Common.{◌≡◌, ℕ, ◌+◌, ◌-◌, ◌<◌, List, reverse, length, take, slice_get, Some, None, Ok, Err, Result, [], ◌∷◌, ap, ◌∙◌, arith}
use Rattle.std.proofs.lemmas.List.{length-take-le}
use Rattle.std.proofs.lemmas.Option.{slice_get-get_or}
use Rattle.std.specs.Result.{result_ok}
use Rattle.arrayvec.specs.ArrayVec.{ArrayVec}
use Rattle.node.specs.declared.faults.CheckFault.{CheckFault}
use Rattle.node.specs.declared.node.Node.{Node}
use Rattle.node.specs.declared.shape.Shape.{Shape}
use Rattle.node.specs.Plans.{Plans, ShapeAt}
use Rattle.node.specs.Stacks.{held, Stacked}
use Rattle.node.proofs.Sole.{refused_none}
use Rattle.node.proofs.Stacking.{some_held, top_held}
use Rattle.node.proofs.verdict.shape_at.Goals as goal

-- nodes that leave no stack are no memories' nodes
none_left : (ns : List Node) (r : Result (ArrayVec Shape) CheckFault) → Stacked ns r → None ≡ result_ok r → (st : List Shape) → Plans ns st → ⊥
none_left ns (Ok stack) told is st plans = absurd (cc)
none_left ns (Err fault) told is st plans = refused_none told.3 plans

-- the memories of the stack that nodes leave
left : (ns : List Node) (r : Result (ArrayVec Shape) CheckFault) (stack : ArrayVec Shape) → Stacked ns r → Some stack ≡ result_ok r → Plans ns (held stack)
left ns (Ok stack) other told is = let same : stack ≡ other = cc in rw (← same) told.0
left ns (Err fault) other told is = absurd (cc)

-- the top of memories that the nodes up to a place leave
top_at : (ns : List Node) (last : ℕ) (xs : List Shape) → last < length ns → last < 64 → Plans (take (last + 1) ns) (reverse xs) → ShapeAt ns last (slice_get xs (length xs - 1))
top_at ns last [] within low plans =
    let some = some_held [] plans (omega (arith, length-take-le (last + 1) ns (omega arith))) in
    absurd (omega arith)
top_at ns last (x ∷ xs) within low plans =
    rw (slice_get-get_or (x ∷ xs) (length (x ∷ xs) - 1) x (omega arith)) (within, low, (_, top_held (x ∷ xs) x plans (omega arith)))

pub returns-in_err-ok : goal.returns-in_err-ok
returns-in_err-ok c = rw c.from_residual.ensures (λ _ _. none_left _ c.stacked.result c.stacked.ensures c.in_err-ok.ensures.value)

pub returns : goal.returns
returns c =
    let stack = c.in_ok-ok.field-0 in
    let plans = left _ c.stacked.result stack c.stacked.ensures c.in_ok-ok.ensures.value in
    let shown : c.deref.result.now ≡ stack.items = c.deref.ensures.0 in
    let top : c.copied.result ≡ slice_get stack.items (length stack.items - 1) = c.copied.ensures ∙ c.last.ensures.value ∙ ap (λ xs. slice_get xs (length xs - 1)) shown in
    rw top (top_at _ _ stack.items c.if-last-nodes.false c.if-last-ge-MAX_NODES.false plans)
