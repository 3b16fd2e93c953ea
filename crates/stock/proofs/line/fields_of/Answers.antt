use Rattle.std.proofs.Common.{codes, Some, ◌∙◌, ap, ◌++◌, sym, subst}
use Rattle.std.proofs.lemmas.Bool.Decides.{Decides-eqb}
use Rattle.std.proofs.lemmas.Slice.Eq.{strip_prefix_is}
use Rattle.text.specs.Numbers.{Canonical}
use Rattle.text.proofs.Cuts.{number_off}
use Rattle.stock.proofs.Rows.{word_off}
use Rattle.stock.proofs.line.fields_of.Goals as goal

pub returns-in_err-count : goal.returns-in_err-count
returns-in_err-count c =
    let here = strip_prefix_is Decides-eqb c.args.line.now (codes "stock\t") (Some c.in_ok-rest.rest) c.in_ok-rest.ensures.cases in
    let k = c.in_ok-kind.ensures in
    let told = c.in_err-count.ensures in
    rw c.from_residual-in_err-count.ensures (λ v.
    let d = (number_off k.1 k.2 (word_off _ here v) v.kind_ok).1 in
    told (subst Canonical (sym d) v.count_ok))

pub returns : goal.returns
returns c =
    let here = strip_prefix_is Decides-eqb c.args.line.now (codes "stock\t") (Some c.in_ok-rest.rest) c.in_ok-rest.ensures.cases in
    let k = c.in_ok-kind.ensures in
    let d = c.in_ok-count.ensures in
    record {
      fields = record {
        kind = k.0;
        count = c.in_ok-kind.rest.now;
        is = here ∙ ap (λ t. codes "stock\t" ++ t) k.1;
        kind_ok = k.2;
        count_ok = d.0;
      };
      kind = k.3;
      count = d.1;
    }
