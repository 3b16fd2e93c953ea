-- Nodes that the check refuses pass in no way.
use Rattle.std.proofs.Common.{◌≡◌, List, Ok, Err, Result, refl}
use Rattle.node.specs.declared.faults.CheckFault.{CheckFault}
use Rattle.node.specs.declared.node.Node.{Node}
use Rattle.node.specs.declared.shape.Shape.{Shape}
use Rattle.node.specs.declared.verdict.Top.{Top}
use Rattle.node.specs.Plans.{Passes, Sole, macro_count}

pub refused : (ns : List Node) (f : CheckFault) → Sole ns (Err f) → (s : Shape) → Passes ns s → ⊥
refused ns f sole s h =
    let top : Top = record { shape = s; macros = macro_count ns } in
    let same : ◌≡◌ {A = Result Top CheckFault} (Ok top) (Err f) = sole (Ok top) (h, refl) in
    absurd (cc)
