-- The numbers of a register file.
use Rattle.std.specs.Prelude.{ℕ, min}

-- the largest depth of a register file
abbrev pub max_words : ℕ
max_words = 64

-- the read ports of a register file that is not void
abbrev pub read_ports : ℕ
read_ports = 4

-- the write ports of a register file that is not void
abbrev pub write_ports : ℕ
write_ports = 2

-- the depth of a register file that is asked for with this one
abbrev pub depth_for : ℕ → ℕ
depth_for asked = min asked max_words
