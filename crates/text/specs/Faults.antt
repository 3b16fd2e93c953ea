-- The numbers of the faults that a line of any format can have.
use Rattle.std.specs.Prelude.{ℕ}
use Rattle.text.specs.declared.faults.LineFault.{LineFault}
use Rattle.text.specs.declared.faults.LineFault.TheVariants.{Malformed, OutOfRange}

-- a malformed line is 5, and a number beyond its range is 6
abbrev pub line_fault : LineFault → ℕ
line_fault Malformed = 5
line_fault OutOfRange = 6

-- the largest number of bytes that a text may have
abbrev pub max_bytes : ℕ
max_bytes = 65536
