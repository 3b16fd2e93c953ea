use Rattle.std.proofs.Common.{◌≡◌, ℕ, List, ◌∷◌, ◌++◌, codes, Some, None, Option, MatchOption, IsSomeAnd, subst, inr, rules}
use Rattle.std.proofs.lemmas.Bool.Decides.{Decides-eqb}
use Rattle.std.proofs.lemmas.Slice.Eq.{strip_prefix_is}
use Rattle.std.specs.Option.{ok_or}
use Rattle.text.specs.declared.faults.LineFault.TheVariants.{OutOfRange}
use Rattle.node.specs.declared.node.Macro.{Macro}
use Rattle.node.specs.declared.node.Node.{Node}
use Rattle.node.specs.declared.node.Node.TheVariants as node
use Rattle.node_line.specs.declared.Fields.{Fields}
use Rattle.node_line.specs.Reading.{FieldsRead, LineRead, Says, Ranged}
use Rattle.node_line.proofs.Rows.{not_node, node_line}
use Rattle.node_line.proofs.parse.Goals as goal

-- a macro's line of well-formed fields has its macro, or a number out of range
of_macro : (line rest : List ℕ) (w : Fields) (o : Option Macro) (n : Option Node) → line ≡ codes "macro" ++ (9 ∷ rest) → Says rest w → Ranged w o → MatchOption o (n ≡ None) (λ m. IsSomeAnd n (λ r. r ≡ node.Macro m)) → LineRead line (ok_or n OutOfRange)
of_macro line rest w None n here says out is = rw is (inr (_, here, says.fields), not_node here says out)
of_macro line rest w (Some m) None here says told is = absurd is
of_macro line rest w (Some m) (Some n) here says told is = rw is (node_line here says told.0 told.1, told.1)

pub returns : goal.returns
returns c =
    let here = strip_prefix_is Decides-eqb c.args.line.now (codes "macro\t") (Some c.in-Some.fields) c.in-Some.ensures.cases in
    let says = subst (FieldsRead c.in-Some.fields.now) c.in_ok-fields.ensures.ok_part c.fields_of.ensures in
    rw c.ok_or-3.ensures.value (of_macro _ c.in-Some.fields.now c.in_ok-fields.fields c.within.result c.map-2.result here says c.within.ensures (search rules))
