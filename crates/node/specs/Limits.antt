-- The limits of plans and memories.
use Rattle.std.specs.Prelude.{ℕ}

-- the largest number of nodes that a plan may have
abbrev pub max_nodes : ℕ
max_nodes = 64

-- the largest kind of a macro
abbrev pub max_kind : ℕ
max_kind = 15

-- the largest number of read ports, and of write ports, of a memory
abbrev pub max_ports : ℕ
max_ports = 16

-- the largest depth of a memory
abbrev pub max_depth : ℕ
max_depth = 65536

-- the largest depth of a live-value table
abbrev pub max_marks : ℕ
max_marks = 1024
