use Rattle.std.proofs.Common.{◌≡◌, ℕ, map, ap, arith, rules}
use Rattle.std.specs.List.{flat_map}
use Rattle.wires.specs.Lines.{wire_line}
use Rattle.wires.specs.Wires.{upto}
use Rattle.wiring.proofs.Continuing.{continues_then, continues_is, ports_more}
use Rattle.wiring.proofs.writer.append_ports.Goals as goal

pub loop-port-preserved : goal.loop-port-preserved
loop-port-preserved g c = λ of each.
    continues_is (ports_more of c.loop-port.port (each _ _ (search rules)))
    (continues_then (c.loop-port.invariant of each) c.append_wires.ensures)

pub returns : goal.returns
returns g c = λ of each.
    let all : c.loop-port.port ≡ c.args.count = omega arith in
    continues_is (ap (λ (n : ℕ). map wire_line (flat_map of (upto n))) all) (c.loop-port.invariant of each)
