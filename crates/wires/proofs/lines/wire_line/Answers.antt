use Rattle.std.proofs.Common.{ℕ, [], ◌∷◌, ap, ◌∙◌, rules}
use Rattle.text.proofs.Lines.{adds_first, adds_then, adds_is, adds_whole}
use Rattle.wires.proofs.Rendering.{wire_is, wire_short}
use Rattle.wires.proofs.lines.wire_line.Goals as goal

pub returns : goal.returns
returns c =
    let mark = adds_is (ap (λ (x : ℕ). x ∷ []) c.into.ensures) (adds_first c.new.ensures c.byte.ensures) in
    let node = adds_then (adds_then mark c.byte-2.ensures) c.number.ensures in
    let port = adds_then (adds_then node c.byte-3.ensures) c.number-2.ensures in
    let half = adds_then (adds_then port c.byte-4.ensures) c.number-3.ensures in
    let inner = adds_then (adds_then half c.byte-5.ensures) c.number-4.ensures in
    adds_whole (adds_then inner c.byte-6.ensures)
    (wire_short c.args.wire (search rules) (search rules) (search rules) (search rules))
    ∙ wire_is c.args.wire
