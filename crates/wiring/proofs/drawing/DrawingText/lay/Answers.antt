use Rattle.std.proofs.Common.{rules}
use Rattle.wiring.proofs.Sounding.{text_laid}
use Rattle.wiring.proofs.drawing.DrawingText.lay.Goals as goal

pub returns : goal.returns
returns c =
    let d = c.args.self.now in
    text_laid d.nodes.now d.top c.append_nodes.result c.args.cursor.now c.append_nodes.new.cursor c.append_line.new.cursor d.sound c.append_nodes.ensures (c.append_line.ensures _ (search rules))
