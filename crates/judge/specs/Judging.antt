-- What a plan text is judged to be.
use Rattle.std.specs.Prelude.{ℕ, List, take, Ok, Err, Result}
use Rattle.text.specs.declared.faults.Report.{Report}
use Rattle.node.specs.declared.node.Node.{Node}
use Rattle.node.specs.Faults.{check_fault}
use Rattle.node.specs.Plans.{Checked}
use Rattle.plan_text.specs.Faults.{read_fault}
use Rattle.plan_text.specs.Texts.{TextRead}
use Rattle.plan_text.specs.Trips.{ReadAs}
use Rattle.plan_text.specs.Writing.{Passing}
use Rattle.judge.specs.declared.PlanFault.{PlanFault}
use Rattle.judge.specs.declared.PlanFault.TheVariants.{Read, Check}

-- what is printed of a fault
abbrev pub plan_fault : PlanFault → Report
plan_fault (Read f) = read_fault f
plan_fault (Check f) = check_fault f

-- a text whose nodes pass the check, with their number; or the first fault of the text; or, of a text that is read,
-- the check's
abbrev pub Judged : List ℕ → List Node → List Node → Result ℕ PlanFault → Type 0
Judged text old new (Ok n) = TextRead text old new (Ok n) × Passing (take n new)
Judged text old new (Err (Read f)) = TextRead text old new (Err f)
Judged text old new (Err (Check f)) = ReadAs text old new (λ ns. Checked ns (Err f))
