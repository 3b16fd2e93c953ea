-- What sealing a draft gives.
use Rattle.std.specs.Prelude.{◌≡◌, ℕ, List, [], Some, None, Ok, Option}
use Rattle.word.specs.declared.Letter.{Letter}
use Rattle.node.specs.declared.node.Node.{Node}
use Rattle.node.specs.declared.shape.Shape.{Shape}
use Rattle.node.specs.declared.verdict.Top.{Top}
use Rattle.node.specs.Plans.{Passes, Checked}

-- nodes that pass are kept, with the top that the check answers; others give the empty plan, with no
-- nodes and no top
abbrev pub Seals : List Node → List Node → Option Top → Type 0
Seals ns kept (Some t) = (kept ≡ ns) × Checked ns (Ok t)
Seals ns kept None = (kept ≡ []) × ((s : Shape) → Passes ns s → ⊥)

-- the top's letter; the empty plan has none
abbrev pub top_letter : Option Top → Option Letter
top_letter (Some t) = Some t.shape.letter
top_letter None = None

-- the top's number of read ports; the empty plan has 0
abbrev pub top_reads : Option Top → ℕ
top_reads (Some t) = t.shape.reads
top_reads None = 0

-- the top's number of write ports; the empty plan has 0
abbrev pub top_writes : Option Top → ℕ
top_writes (Some t) = t.shape.writes
top_writes None = 0

-- the top's depth; the empty plan has 0
abbrev pub top_depth : Option Top → ℕ
top_depth (Some t) = t.shape.depth
top_depth None = 0

-- the number of macros; the empty plan has 0
abbrev pub top_macros : Option Top → ℕ
top_macros (Some t) = t.macros
top_macros None = 0
