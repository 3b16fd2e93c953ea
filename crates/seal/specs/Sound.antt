-- What every sealed plan is.
use Rattle.std.specs.Prelude.{◌≡◌, List, [], Some, None, Ok, Option}
use Rattle.node.specs.declared.node.Node.{Node}
use Rattle.node.specs.declared.verdict.Top.{Top}
use Rattle.node.specs.Plans.{Checked}

-- nodes with the top that the check answers to them, or no nodes and no top
abbrev pub Sound : List Node → Option Top → Type 0
Sound ns (Some t) = Checked ns (Ok t)
Sound ns None = ns ≡ []
