use Rattle.std.proofs.Common.{◌≡◌, ◌+◌, List, length, take, sym, ap, ◌∙◌, arith, rules, length-take-le}
use Rattle.std.proofs.lemmas.List.{take-append-le}
use Rattle.node.specs.declared.node.Node.{Node}
use Rattle.node.specs.Limits.{max_nodes}
use Rattle.pile.proofs.Copies.{copy_more, copy_all, node_there, plan_few}
use Rattle.pile.proofs.surveying.copy_plan.Goals as goal
use Rattle.pile.proofs.surveying.copy_plan.Goals.{in-Some, in_default}

pub loop-i-preserved : goal.loop-i-preserved
loop-i-preserved g c = λ o.
    let plan = (g.M.Memory.meaning c.args.memory.now).plan in
    let i = c.loop-i.i in
    elim c.match-node.branch [
      | in-Some w ↦
          ap (λ (t : List Node). take (i + 1) t) w.slot-items-is
          ∙ copy_more plan c.loop-i.slot-items i w.in-Some.node (omega arith) (sym (w.in-Some.ensures o)) (c.loop-i.invariant o)
      | in_default w ↦
          let all = c.nodes.ensures o in
          let few = c.min-count.ensures in
          let here = c.loop-i-test.true in
          let long : length (take c.min-count.result c.args.nodes.now) ≡ c.min-count.result = search (rules, length-take-le) in
          absurd (node_there plan i (omega arith) (sym (w.in_default.ensures o)))
    ]

pub returns-clause-plan : goal.returns-clause-plan
returns-clause-plan g c = λ o.
    let n = c.min-count.result in
    let slots = c.loop-i.slot-items in
    let full : length c.args.nodes.now ≡ max_nodes = search rules in
    let few = plan_few (g.met.M.Memory.planned c.args.memory.now o) in
    let all = c.nodes.ensures o in
    let count = c.min-count.ensures in
    let long = length-take-le n c.args.nodes.now (omega arith) in
    let end : n ≡ c.loop-i.i = let past = c.loop-i-test.false in let within = c.loop-i.auto.i-end in omega arith in
    take-append-le n slots _ (omega arith)
    ∙ ap (λ k. take k slots) end
    ∙ copy_all (g.M.Memory.meaning c.args.memory.now).plan slots c.loop-i.i (omega arith) (c.loop-i.invariant o)
