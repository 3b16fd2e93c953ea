use Rattle.std.proofs.Common.{refl, arith, rules, tests}
use Rattle.std.proofs.lemmas.Iterator.{YieldsList-from_range}
use Rattle.std.proofs.lemmas.Iterator.Consumers.{YieldsList-at, YieldsList-from_filter, YieldsList-from_filter_map, count_from_yields_List}
use Rattle.std.specs.List.{slice_get}
use Rattle.node.specs.Nodes.{is_macro}
use Rattle.memory.proofs.Counts.{counted}
use Rattle.memory.proofs.memory.Memory.macros.Goals as goal

pub returns : goal.returns
returns g c = λ o.
    let plan = (g.Self.Memory.meaning c.args.self.now).plan in
    let n = c.nodes.result in
    counted plan n _ (c.nodes.ensures o) (count_from_yields_List c.filter.result _ c.count.ensures.ran (YieldsList-from_filter _ is_macro (YieldsList-at c.filter.ensures.source (YieldsList-from_filter_map _ (slice_get plan) (YieldsList-at c.filter_map.ensures.source (YieldsList-from_range 0 n n refl (omega arith))) c.filter_map.ensures.closure (λ x r q k. search (rules, tests)))) c.filter.ensures.closure (λ x r q k. search (rules, tests))))
