use Rattle.std.proofs.Common.{◌∙◌, rules}
use Rattle.text.proofs.Lines.{adds_first, adds_then, adds_whole}
use Rattle.wires.proofs.Rendering.{top_is, top_short}
use Rattle.wires.proofs.lines.top_line.Goals as goal

pub returns : goal.returns
returns c =
    let last = adds_then (adds_then (adds_first c.new.ensures c.word.ensures) c.byte.ensures) c.number.ensures in
    let macros = adds_then (adds_then last c.byte-2.ensures) c.number-2.ensures in
    adds_whole (adds_then macros c.byte-3.ensures) (top_short c.args.last c.args.macros (search rules) (search rules))
    ∙ top_is c.args.last c.args.macros
