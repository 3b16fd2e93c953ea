use Rattle.memory.specs.Calls.{Edged}
use Rattle.layered.specs.Layered.{InOrder, meant}
use Rattle.layered.proofs.Edges.{edged_live}
use Rattle.layered.proofs.LayeredMemory.edge.Given as given
use Rattle.layered.proofs.LayeredMemory.edge.Goals as goal

-- the edge of a layer in order that is not void
module _ (g : given.Over) (c : goal.After-edge g) (o : InOrder g.R.Rule.own g.A.Word.Word.kind g.A.Memory.ordered g.B.Memory.ordered g.A.Memory.meaning g.B.Memory.meaning (g.R.Rule.pairs c.args.self.now.rule) c.args.self.now.halves) where
  edged : InOrder g.R.Rule.own g.A.Word.Word.kind g.A.Memory.ordered g.B.Memory.ordered g.A.Memory.meaning g.B.Memory.meaning (g.R.Rule.pairs c.advance.new.self) c.edge.new.self × Edged (meant g.A.Memory.meaning g.B.Memory.meaning (g.R.Rule.means c.args.self.now.rule) c.args.self.now.halves) (meant g.A.Memory.meaning g.B.Memory.meaning (g.R.Rule.means c.advance.new.self) c.edge.new.self)
  edged =
      edged_live g.R.Rule.own g.A.Word.Word.kind g.A.Memory.ordered g.B.Memory.ordered g.A.Memory.meaning g.B.Memory.meaning (g.R.Rule.pairs c.args.self.now.rule) (g.R.Rule.pairs c.advance.new.self) (g.R.Rule.means c.args.self.now.rule) (g.R.Rule.means c.advance.new.self) c.args.self.now.halves c.edge.new.self c.edge.ensures c.if-self-gt0.true o g.met.A.Memory.tidy g.met.B.Memory.tidy
      (λ agreed s t shared. g.met.R.Rule.edged c.args.self.now.rule c.advance.new.self _ _ _ _ _ agreed s t shared (c.advance.ensures o c.if-self-gt0.true))

pub returns-then-self-gt0-clause-order : goal.returns-then-self-gt0-clause-order
returns-then-self-gt0-clause-order g c o = (edged g c o).0

pub returns-then-self-gt0-clause-does : goal.returns-then-self-gt0-clause-does
returns-then-self-gt0-clause-does g c o = (edged g c o).1
