use Rattle.std.proofs.Common.{◌∙◌, rules}
use Rattle.std.proofs.lemmas.Iterator.{YieldsList-from_slice}
use Rattle.std.proofs.lemmas.Iterator.Consumers.{YieldsList-from_filter, count_from_yields_List}
use Rattle.stock.specs.Needs.{of_kind}
use Rattle.stock.proofs.Counts.{length_of_kind}
use Rattle.stock.proofs.needs.needed.Goals as goal
use borrow.Author.Tests.{tests}

pub returns : goal.returns
returns c =
    count_from_yields_List c.filter.result _ c.count.ensures.ran (YieldsList-from_filter _ (of_kind c.args.kind) (YieldsList-from_slice c.args.nodes.now (cc)) c.filter.ensures.closure (λ x r q k. search (rules, tests)))
    ∙ length_of_kind c.args.nodes.now c.args.kind
