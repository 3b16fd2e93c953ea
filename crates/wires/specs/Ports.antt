-- What the code holds of a layer's wires.
use Rattle.std.specs.Prelude.{ℕ, List, [], ◌∷◌}
use Rattle.wires.specs.declared.wire.Joint.{Joint}
use Rattle.wires.specs.declared.wire.PortWires.{PortWires}
use Rattle.wires.specs.declared.wire.PortWires.TheVariants.{One, Two}
use Rattle.wires.specs.declared.wire.Wire.{Wire}
use Rattle.wires.specs.Wires as wires

-- the wires of a port, as a list
abbrev pub listed : PortWires → List Wire
listed (One w) = w ∷ []
listed (Two v w) = v ∷ (w ∷ [])

-- the wires of a read port of a layer
abbrev pub joint_reads : Joint → ℕ → List Wire
joint_reads j = wires.read_wires j.layer j.own.root j.a.root j.b.root j.a.shape j.b.shape

-- the wires of a write port of a layer
abbrev pub joint_writes : Joint → ℕ → List Wire
joint_writes j = wires.write_wires j.layer j.own.root j.a.root j.b.root j.a.shape j.b.shape
