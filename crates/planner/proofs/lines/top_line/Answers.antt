use Rattle.std.proofs.Common.{◌∙◌, rules}
use Rattle.text.proofs.Lines.{adds_first, adds_then, adds_whole}
use Rattle.planner.proofs.Rendering.{top_parts_are, top_parts_short}
use Rattle.planner.proofs.lines.top_line.Goals as goal

pub returns : goal.returns
returns c =
    let top = c.args.top in
    let shape = top.shape in
    let x = c.letter_byte.result in
    let letter = adds_then (adds_then (adds_first c.new.ensures c.word.ensures) c.byte.ensures) c.byte-2.ensures in
    let reads = adds_then (adds_then letter c.number.ensures) c.byte-3.ensures in
    let writes = adds_then (adds_then reads c.number-2.ensures) c.byte-4.ensures in
    let depth = adds_then (adds_then writes c.number-3.ensures) c.byte-5.ensures in
    let all = adds_then (adds_then depth c.number-4.ensures) c.byte-6.ensures in
    adds_whole all (top_parts_short x shape.reads shape.writes shape.depth top.macros (search rules) (search rules) (search rules) (search rules))
    ∙ top_parts_are shape.letter x shape.reads shape.writes shape.depth top.macros c.letter_byte.ensures
