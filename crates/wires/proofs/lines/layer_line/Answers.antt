use Rattle.std.proofs.Common.{◌∙◌, rules}
use Rattle.text.proofs.Lines.{adds_first, adds_then, adds_is, adds_whole}
use Rattle.wires.proofs.Rendering.{layer_is, layer_short}
use Rattle.wires.proofs.lines.layer_line.Goals as goal

pub returns : goal.returns
returns c =
    let j = c.args.joint in
    let name = adds_is c.layer_name.ensures (adds_first c.new.ensures c.word.ensures) in
    let node = adds_then (adds_then name c.byte.ensures) c.number.ensures in
    let first = adds_then (adds_then node c.byte-2.ensures) c.number-2.ensures in
    let second = adds_then (adds_then first c.byte-3.ensures) c.number-line.ensures in
    adds_whole (adds_then second c.shape_end.ensures)
    (layer_short j.layer j.own.root j.a.root j.b.root j.own.shape (search rules) (search rules) (search rules) (record { reads = search rules; writes = search rules; depth = search rules }))
    ∙ layer_is j.layer j.own.root j.a.root j.b.root j.own.shape
