use Rattle.std.proofs.Common.{◌∙◌, rules}
use Rattle.text.proofs.Lines.{adds_first, adds_then, adds_whole}
use Rattle.node_line.proofs.Rendering.{macro_parts_are, macro_parts_short}
use Rattle.node_line.proofs.macro_line.Goals as goal

pub returns : goal.returns
returns c =
    let m = c.args.m.now in
    let letter = c.letter_byte.result in
    let kind = adds_then (adds_first c.new.ensures c.word.ensures) c.number.ensures in
    let named = adds_then (adds_then (adds_then kind c.byte.ensures) c.byte-2.ensures) c.byte-3.ensures in
    let reads = adds_then (adds_then named c.number-2.ensures) c.byte-4.ensures in
    let writes = adds_then (adds_then reads c.number-3.ensures) c.byte-5.ensures in
    let all = adds_then (adds_then writes c.number-4.ensures) c.byte-6.ensures in
    adds_whole all (macro_parts_short m letter (record { kind = search rules; reads = search rules; writes = search rules; depth = search rules }))
    ∙ macro_parts_are m letter c.letter_byte.ensures
