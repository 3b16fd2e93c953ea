use Rattle.std.proofs.Common.{map, sym, ap}
use Rattle.wires.specs.declared.wire.PortWires.{PortWires}
use Rattle.wires.specs.Lines.{wire_line}
use Rattle.wires.specs.Ports.{listed}
use Rattle.wiring.proofs.Continuing.{continues_then, continues_is}
use Rattle.wiring.proofs.writer.append_wires.Goals as goal

pub returns-in-One : goal.returns-in-One
returns-in-One c =
    continues_is (ap (λ (ws : PortWires). map wire_line (listed ws)) (sym c.in-One.is)) (c.append_line.ensures _ c.wire_line.ensures)

pub returns-in-Two : goal.returns-in-Two
returns-in-Two c =
    continues_is (ap (λ (ws : PortWires). map wire_line (listed ws)) (sym c.in-Two.is))
    (continues_then (c.append_line-in-Two.ensures _ c.wire_line-in-Two.ensures) (c.append_line-in-Two-2.ensures _ c.wire_line-in-Two-2.ensures))
