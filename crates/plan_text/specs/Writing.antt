-- What the writer of a plan text answers.
use Rattle.std.specs.Prelude.{◌≡◌, ℕ, ◌<◌, ◌≤◌, List, ◌++◌, length, drop, Ok, Err, Result}
use Rattle.node.specs.declared.node.Node.{Node}
use Rattle.node.specs.declared.shape.Shape.{Shape}
use Rattle.node.specs.Plans.{Passes, Checked}
use Rattle.plan_text.specs.declared.faults.WriteFault.{WriteFault}
use Rattle.plan_text.specs.declared.faults.WriteFault.TheVariants as writing
use Rattle.plan_text.specs.Texts.{text_of}

-- the nodes pass the check
abbrev pub Passing : List Node → Type 0
Passing ns = (s : Shape) × Passes ns s

-- what writing nodes into a buffer answers: the length of their text, which is at the front of the
-- buffer; or a fault, and the buffer is as it was
abbrev pub TextWritten : List Node → List ℕ → List ℕ → Result ℕ WriteFault → Type 0
TextWritten ns old new (Ok n) = Passing ns × (n ≡ length (text_of ns)) × (n ≤ length old) × (new ≡ text_of ns ++ drop n old)
TextWritten ns old new (Err (writing.Check f)) = Checked ns (Err f) × (new ≡ old)
TextWritten ns old new (Err writing.NoRoom) = Passing ns × (length old < length (text_of ns)) × (new ≡ old)
