use Rattle.std.proofs.Common.{decimal, ◌∙◌, rules}
use Rattle.text.proofs.Lines.{adds_first, adds_then, adds_is, adds_whole}
use Rattle.fault_line.specs.Lines.{part_name}
use Rattle.fault_line.proofs.Rendering.{fault_parts_are, fault_parts_short}
use Rattle.fault_line.proofs.render.Goals as goal

pub returns : goal.returns
returns c =
    let part = c.args.part in
    let number = c.args.report.number in
    let place = c.args.report.place in
    let name = adds_then (adds_first c.new.ensures c.word.ensures) (adds_is c.name.ensures c.word-2.ensures) in
    let numbered = adds_then (adds_then name c.byte.ensures) c.number.ensures in
    let all = adds_then (adds_then (adds_then numbered c.byte-2.ensures) c.number-2.ensures) c.byte-3.ensures in
    adds_whole all (fault_parts_short part number place (search rules) (search rules))
    ∙ fault_parts_are (part_name part) (decimal number) (decimal place)
