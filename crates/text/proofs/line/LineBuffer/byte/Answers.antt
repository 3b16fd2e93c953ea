use Rattle.std.proofs.Common.{rules}
use Rattle.text.proofs.Lines.{byte_kept, byte_lost}
use Rattle.text.proofs.line.LineBuffer.byte.Goals as goal

pub returns-then-self-lt-LINE_BYTES : goal.returns-then-self-lt-LINE_BYTES
returns-then-self-lt-LINE_BYTES c = byte_kept c.args.self.bytes c.args.self.len c.args.byte (search rules) (search rules)

pub returns-else-self-lt-LINE_BYTES : goal.returns-else-self-lt-LINE_BYTES
returns-else-self-lt-LINE_BYTES c = byte_lost c.args.self.bytes c.args.self.len c.args.byte (search rules) (search rules)
