use Rattle.std.proofs.Common.{[], ◌++◌, arith}
use Rattle.std.proofs.lemmas.Result.{err_from_is_err_and}
use Rattle.wiring.specs.Parts.{none}
use Rattle.wiring.proofs.Continuing.{continues_none, continues_then}
use Rattle.wiring.proofs.Stacking.{parts_next, parts_stop}
use Rattle.wiring.proofs.nodes.append_nodes.Goals as goal

pub loop-i-init : goal.loop-i-init
loop-i-init c = rw c.new-stack.ensures ([], none, continues_none, omega arith)

pub returns-in_err-add : goal.returns-in_err-add
returns-in_err-add c =
    let fault = err_from_is_err_and c.from_residual.result c.from_residual.ensures.1 in
    rw fault.1 (parts_stop c.args.nodes.now c.loop-i.i _ _ c.loop-i-test.true c.loop-i.invariant.1 c.in_err-add.ensures)

pub loop-i-preserved : goal.loop-i-preserved
loop-i-preserved c =
    let inv = c.loop-i.invariant in
    let told = c.in_ok-add.ensures in (
      inv.0 ++ told.lines,
      parts_next c.args.nodes.now c.loop-i.i _ told.lines c.loop-i-test.true inv.1 told.taken,
      continues_then inv.2 told.written,
      omega (arith, told.count, inv.3),
    )
