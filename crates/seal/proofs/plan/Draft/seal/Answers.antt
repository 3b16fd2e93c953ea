use Rattle.std.proofs.Common.{refl}
use Rattle.seal.proofs.Refusals.{refused}
use Rattle.seal.proofs.plan.Draft.seal.Goals as goal

pub returns-in_default : goal.returns-in_default
returns-in_default c = (refl, refused c.args.self.nodes.now _ c.in_default.ensures.sole)
