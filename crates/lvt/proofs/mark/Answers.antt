use Rattle.std.proofs.Common.{◌<◌, arith}
use Rattle.lvt.proofs.Marking.{passed_some, passed_past, passed_none}
use Rattle.lvt.proofs.mark.Goals as goal
use Rattle.lvt.proofs.mark.Goals.{in-Some+then-address-marks, in-Some+else-address-marks, in_default}

pub loop-port-preserved : goal.loop-port-preserved
loop-port-preserved g c = λ o room.
    let m = g.M.Memory.meaning c.args.memory.now in
    let count = c.writes-port-end.ensures o in
    let below : c.loop-port.port < (g.M.Memory.meaning c.args.memory.now).writes = omega arith in
    elim c.match-held.branch [
      | in-Some+then-address-marks w ↦
          passed_some m c.loop-port.port w.in-Some.address c.args.half c.args.marks.now c.loop-port.marks c.match-held.marks (c.loop-port.invariant o room) ((w.in-Some.ensures o).inside below) (omega arith) w.marks-is
      | in-Some+else-address-marks w ↦
          passed_past m c.loop-port.port w.in-Some.address c.args.half c.args.marks.now c.match-held.marks (g.met.M.Memory.tidy c.args.memory.now o) below ((w.in-Some.ensures o).inside below) (omega arith)
      | in_default w ↦
          passed_none m c.loop-port.port c.args.half c.args.marks.now c.loop-port.marks c.match-held.marks (c.loop-port.invariant o room) ((w.in_default.ensures o).inside below) w.marks-is
    ]
