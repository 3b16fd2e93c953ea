use Rattle.text.proofs.Lines.{adds_then, adds_is}
use Rattle.wires.proofs.Rendering.{shape_end_is}
use Rattle.wires.proofs.lines.shape_end.Goals as goal

pub returns : goal.returns
returns c =
    let reads = adds_then c.byte.ensures c.number.ensures in
    let writes = adds_then (adds_then reads c.byte-2.ensures) c.number-2.ensures in
    let depth = adds_then (adds_then writes c.byte-3.ensures) c.number-3.ensures in
    adds_is (shape_end_is _ _ _) (adds_then depth c.byte-4.ensures)
