use Rattle.std.proofs.Common.{rules}
use Rattle.std.proofs.lemmas.Result.{err_from_is_err_and}
use Rattle.text.proofs.Begins.{taken}
use Rattle.stock.specs.declared.faults.StockFault.TheVariants.{Line}
use Rattle.stock.specs.Lines.{LineRead}
use Rattle.stock.proofs.Turns.{read_again, read_first, read_more, read_refused}
use Rattle.stock.proofs.reader.read_lines.Goals as goal

pub loop-line-init : goal.loop-line-init
loop-line-init c = read_first _ (search rules) c.new-stock.ensures

pub returns-in_err-entry : goal.returns-in_err-entry
returns-in_err-entry c =
    let p = err_from_is_err_and c.from_residual-in_err-entry.result c.from_residual-in_err-entry.ensures.1 in
    rw (p.1, p.2) (read_refused c.loop-line.invariant _ _ _ _ c.in-Some.ensures.steps c.in_err-entry.ensures)

pub returns-in_err-stock : goal.returns-in_err-stock
returns-in_err-stock c =
    let p = err_from_is_err_and c.from_residual-in_err-stock.result c.from_residual-in_err-stock.ensures.1 in
    rw (p.1, p.2) (read_again c.loop-line.invariant _ _ _ _ (taken LineRead Line _ _ _ _ _ c.in-Some.ensures.steps c.in_ok-entry.ensures) c.in_err-stock.ensures)

pub loop-line-preserved : goal.loop-line-preserved
loop-line-preserved c =
    read_more c.loop-line.invariant _ _ _ _ (taken LineRead Line _ _ _ _ _ c.in-Some.ensures.steps c.in_ok-entry.ensures) c.in_ok-stock.ensures
