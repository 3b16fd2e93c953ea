use Rattle.std.proofs.Common.{arith, rules}
use Rattle.std.proofs.lemmas.Result.{err_from_is_err_and}
use Rattle.text.proofs.Begins.{taken}
use Rattle.node_line.specs.Reading.{LineRead}
use Rattle.plan_text.specs.declared.faults.ReadFault.TheVariants.{Line}
use Rattle.plan_text.proofs.Turns.{read_more, stopped_full, stopped_many, stopped_refused}
use Rattle.plan_text.proofs.reader.read_lines.Goals as goal

pub returns-in_err-node : goal.returns-in_err-node
returns-in_err-node c =
    let p = err_from_is_err_and c.from_residual-in_err-node.result c.from_residual-in_err-node.ensures.1 in
    rw (p.1, p.2) (stopped_refused c.loop-line.invariant _ _ _ _ c.in-Some.ensures.steps c.in_err-node.ensures)

pub returns-then-count-eq-MAX_NODES : goal.returns-then-count-eq-MAX_NODES
returns-then-count-eq-MAX_NODES c =
    stopped_many c.loop-line.invariant (taken LineRead Line _ _ _ _ _ c.in-Some.ensures.steps c.in_ok-node.ensures) (omega arith)

pub returns-then-count-nodes : goal.returns-then-count-nodes
returns-then-count-nodes c =
    stopped_full c.loop-line.invariant (taken LineRead Line _ _ _ _ _ c.in-Some.ensures.steps c.in_ok-node.ensures) (omega arith) (search rules)

pub loop-line-preserved : goal.loop-line-preserved
loop-line-preserved c =
    read_more c.loop-line.invariant (taken LineRead Line _ _ _ _ _ c.in-Some.ensures.steps c.in_ok-node.ensures) (omega arith) (search rules)
