use Rattle.std.proofs.Common.{◌∙◌, rules}
use Rattle.std.proofs.lemmas.Iterator.{YieldsList-from_slice}
use Rattle.std.proofs.lemmas.Iterator.Consumers.{YieldsList-from_filter, count_from_yields_List}
use Rattle.node.specs.Nodes.{is_macro}
use Rattle.node.proofs.Stacking.{length_macros}
use Rattle.node.proofs.verdict.macros.Goals as goal
use borrow.Author.Tests.{tests}

pub returns : goal.returns
returns c =
    count_from_yields_List c.filter.result _ c.count.ensures.ran (YieldsList-from_filter _ is_macro (YieldsList-from_slice c.args.nodes.now (cc)) c.filter.ensures.closure (λ x r q k. search (rules, tests)))
    ∙ length_macros c.args.nodes.now
