use Rattle.std.proofs.Common.{ℕ, [], ◌∷◌, ap, ◌∙◌, rules}
use Rattle.text.proofs.Lines.{adds_first, adds_then, adds_is, adds_whole}
use Rattle.wires.specs.Lines.{shape_end}
use Rattle.wires.proofs.Rendering.{macro_is, macro_short}
use Rattle.wires.proofs.lines.macro_line.Goals as goal

pub returns : goal.returns
returns c =
    let node = adds_then (adds_then (adds_first c.new.ensures c.word.ensures) c.byte.ensures) c.number.ensures in
    let kind = adds_then (adds_then node c.byte-2.ensures) c.number-2.ensures in
    let letter = adds_is (ap (λ (x : ℕ). x ∷ []) c.letter_byte.ensures) c.byte-line.ensures in
    let end = adds_is (ap shape_end c.shape.ensures) c.shape_end.ensures in
    adds_whole (adds_then (adds_then (adds_then kind c.byte-3.ensures) letter) end)
    (macro_short c.args.node c.args.m (search rules) (search rules) (record { reads = search rules; writes = search rules; depth = search rules }))
    ∙ macro_is c.args.node c.args.m
