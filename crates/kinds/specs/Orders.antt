-- Orders: their zero and their code.
use Rattle.std.specs.Prelude.{ℕ, ◌+◌, ◌*◌}
use Rattle.std.proofs.Common.{lit<}
use Rattle.kinds.specs.declared.order.Order.{Order}

-- opcode 0 with operand 0
abbrev pub order_zero : Order
order_zero = record { opcode = 0; operand = 0; small = (lit< tt, lit< tt) }

-- the code of an order in decimal: the opcode, then three digits of operand
abbrev pub order_code : Order → ℕ
order_code w = w.opcode * 1000 + w.operand
