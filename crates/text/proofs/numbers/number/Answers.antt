use Rattle.std.proofs.Common.{arith}
use Rattle.text.proofs.Numerals.{room, more, not_digit}
use Rattle.text.proofs.numbers.number.Goals as goal

pub overflow_mul-n : goal.overflow_mul-n
overflow_mul-n c = omega (arith, room c.loop-b.invariant (omega arith) (omega arith))

pub overflow_add-n : goal.overflow_add-n
overflow_add-n c = omega (arith, room c.loop-b.invariant (omega arith) (omega arith), c.in_ok-d.ensures)

pub returns-in_err-d : goal.returns-in_err-d
returns-in_err-d c = rw c.from_residual.ensures (not_digit c.loop-b.b-index (omega arith) (λ h. c.in_err-d.ensures h.0 h.1))

pub loop-b-preserved : goal.loop-b-preserved
loop-b-preserved c =
    let d = c.in_ok-d.ensures in
    rw d.2 (more c.loop-b.invariant (omega arith) d.0 (omega (arith, d.1)))
