use Rattle.std.proofs.Common.{ℕ, List, Some, None, Option, subst}
use Rattle.std.specs.Option.{ok_or}
use Rattle.text.specs.declared.faults.LineFault.TheVariants.{OutOfRange}
use Rattle.stock.specs.declared.line.Entry.{Entry}
use Rattle.stock.specs.declared.line.Fields.{Fields}
use Rattle.stock.specs.Lines.{FieldsRead, LineRead, Ranged, Says}
use Rattle.stock.proofs.Rows.{says_line, not_entry}
use Rattle.stock.proofs.line.parse.Goals as goal

-- a well-formed line has its entry, or a number out of range
of_fields : (line : List ℕ) (w : Fields) (o : Option Entry) → Says line w → Ranged w o → LineRead line (ok_or o OutOfRange)
of_fields line w None says out = (says.fields, not_entry says out)
of_fields line w (Some e) says told = (says_line says told.0 told.1, told.1)

pub returns : goal.returns
returns c =
    let says = subst (FieldsRead c.args.line.now) c.in_ok-fields.ensures.ok_part c.fields_of.ensures in
    rw c.ok_or-2.ensures.value (of_fields _ c.in_ok-fields.fields c.within.result says c.within.ensures)
