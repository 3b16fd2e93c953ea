use Rattle.std.proofs.Common.{ℕ, ◌≡◌, List, map}
use Rattle.std.specs.List.{flat_map}
use Rattle.wires.specs.declared.wire.PortWires.{PortWires}
use Rattle.wires.specs.declared.wire.Wire.{Wire}
use Rattle.wires.specs.Lines.{wire_line}
use Rattle.wires.specs.Ports.{listed}
use Rattle.wires.specs.Wires.{upto}
use Rattle.wiring.specs.Parts.{Continues}
use Rattle.wiring.proofs.writer.append_ports.Given as goal

abbrev pub invariant-loop-port : goal.invariant-loop-port
invariant-loop-port g l =
    (of : ℕ → List Wire)
    → ((port : ℕ) (ws : PortWires) → goal.F-post g l.wires port ws → listed ws ≡ of port)
    → Continues l.initial.cursor (map wire_line (flat_map of (upto l.port))) l.cursor
