use Rattle.std.proofs.Common.{rules}
use Rattle.wires.specs.Ports.{joint_reads, joint_writes}
use Rattle.wiring.proofs.Continuing.{continues_then, continues_is, layer_parts}
use Rattle.wiring.proofs.writer.append_layer.Goals as goal

pub returns : goal.returns
returns c =
    let j = c.args.joint in
    let reads = c.append_ports.ensures (joint_reads j) (λ port ws told. search rules) in
    let writes = c.append_ports-2.ensures (joint_writes j) (λ port ws told. search rules) in
    continues_is (layer_parts j) (continues_then (continues_then (c.append_line.ensures _ c.layer_line.ensures) reads) writes)
