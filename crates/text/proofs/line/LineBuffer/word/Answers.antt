use Rattle.std.proofs.Common.{sym, rules}
use Rattle.std.proofs.lemmas.List.{take_more}
use Rattle.text.proofs.Lines.{adds_none, adds_then, adds_is}
use Rattle.text.proofs.line.LineBuffer.word.Goals as goal

pub loop-b-init : goal.loop-b-init
loop-b-init c = adds_none c.args.self.bytes c.args.self.len (search rules)

pub loop-b-preserved : goal.loop-b-preserved
loop-b-preserved c = adds_is (sym (take_more c.args.word.now c.loop-b.b-index 0 c.loop-b-test.true)) (adds_then c.loop-b.invariant c.byte-line.ensures)
