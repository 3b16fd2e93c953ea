use Rattle.std.proofs.Common.{sym, ◌∙◌, subst}
use Rattle.text.specs.Numbers.{Canonical}
use Rattle.text.proofs.Cuts.{same_cut, no_cut, no_tab}
use Rattle.text.proofs.fields.number_field.Goals as goal

pub returns-in_err-field : goal.returns-in_err-field
returns-in_err-field c = rw c.from_residual.ensures (λ f rest e h. no_cut 9 _ f rest e c.in_err-field.ensures)

pub returns-in_err-n : goal.returns-in_err-n
returns-in_err-n c =
    let at = c.in_ok-field.ensures in
    rw c.from_residual-in_err-n.ensures (λ f rest e h. c.in_err-n.ensures (subst Canonical (same_cut 9 f _ rest _ (sym e ∙ at.0) (no_tab h) at.1).0 h))
