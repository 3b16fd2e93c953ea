use Rattle.std.proofs.Common.{◌∙◌, rules}
use Rattle.text.proofs.Lines.{adds_first, adds_then, adds_whole}
use Rattle.planner.proofs.Rendering.{short_parts_are, short_parts_short}
use Rattle.planner.proofs.lines.short_row.Goals as goal

pub returns : goal.returns
returns c =
    let a = c.args in
    let kind = adds_then (adds_then (adds_first c.new.ensures c.word.ensures) c.number.ensures) c.byte.ensures in
    let all = adds_then (adds_then kind c.number-2.ensures) c.byte-2.ensures in
    adds_whole all (short_parts_short a.kind a.missing (search rules) (search rules))
    ∙ short_parts_are a.kind a.missing
