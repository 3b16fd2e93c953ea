use Rattle.std.proofs.Common.{List, Option, sym, ◌∙◌, subst₂}
use Rattle.node.specs.declared.node.Node.{Node}
use Rattle.node.specs.declared.verdict.Top.{Top}
use Rattle.seal.specs.Sound.{Sound}
use Rattle.wiring.proofs.drawing.written.Goals as goal

pub invariant_of-write : goal.invariant_of-write
invariant_of-write c =
    record {
      sound = subst₂ (λ (ns : List Node) (top : Option Top). ∥ Sound ns top ∥₁) (sym c.nodes-nodes.ensures) (sym c.top.ensures ∙ c.in-Some.is) c.args.plan.now.sound;
    }
