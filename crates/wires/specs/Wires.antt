-- The wires of a layer: which port of it is wired to which port of a half.
use Rattle.std.specs.Prelude.{ℕ, zero, suc, ◌+◌, ◌-◌, cond, List, [], ◌∷◌, ◌++◌, nat_lt}
use Rattle.std.specs.List.{flat_map}
use Rattle.node.specs.declared.node.Layer.{Layer}
use Rattle.node.specs.declared.node.Layer.TheVariants.{Replicate, Lvt, Xor, Depth, Width}
use Rattle.node.specs.declared.shape.Shape.{Shape}
use Rattle.node.specs.Nodes.{over}
use Rattle.wires.specs.declared.wire.Mark.{Mark}
use Rattle.wires.specs.declared.wire.Mark.TheVariants.{Read, Write, Recovery}
use Rattle.wires.specs.declared.wire.Wire.{Wire}

-- a wire from a port of the node n to a port of the half that ends with another node
abbrev pub wire_from : Mark → ℕ → ℕ → ℕ → ℕ → Wire
wire_from mark n port half inner = record { mark = mark; node = n; port = port; half = half; inner = inner }

-- the halves A and B end with the nodes a and b; a port p that is wired to the port p of both
abbrev pub to_both : Mark → ℕ → ℕ → ℕ → ℕ → List Wire
to_both mark n a b p = wire_from mark n p a p ∷ (wire_from mark n p b p ∷ [])

-- ports of which the first, as many as `count`, are those of A, and the others those of B
abbrev pub to_one : Mark → ℕ → ℕ → ℕ → ℕ → ℕ → List Wire
to_one mark n a b count p = cond (nat_lt p count) (wire_from mark n p a p ∷ []) (wire_from mark n p b (p - count) ∷ [])

-- the write port w of an exclusive-or bank over halves of the shapes sa and sb: it writes one half, and reads the
-- other, whose last read ports, one for each write port of the first, are for that
abbrev pub xor_writes : ℕ → ℕ → ℕ → Shape → Shape → ℕ → List Wire
xor_writes n a b sa sb w =
    cond (nat_lt w sa.writes)
    (wire_from Write n w a w ∷ (wire_from Recovery n w b (sb.reads - sa.writes + w) ∷ []))
    (wire_from Write n w b (w - sa.writes) ∷ (wire_from Recovery n w a (sa.reads - sb.writes + (w - sa.writes)) ∷ []))

-- the wires of the read port p of a layer at the node n, over halves of the shapes sa and sb
abbrev pub read_wires : Layer → ℕ → ℕ → ℕ → Shape → Shape → ℕ → List Wire
read_wires Replicate n a b sa sb p = to_one Read n a b sa.reads p
read_wires Lvt n a b sa sb p = to_both Read n a b p
read_wires Xor n a b sa sb p = to_both Read n a b p
read_wires Depth n a b sa sb p = to_both Read n a b p
read_wires Width n a b sa sb p = to_both Read n a b p

-- the wires of its write port w
abbrev pub write_wires : Layer → ℕ → ℕ → ℕ → Shape → Shape → ℕ → List Wire
write_wires Replicate n a b sa sb w = to_both Write n a b w
write_wires Lvt n a b sa sb w = to_one Write n a b sa.writes w
write_wires Xor n a b sa sb w = xor_writes n a b sa sb w
write_wires Depth n a b sa sb w = to_both Write n a b w
write_wires Width n a b sa sb w = to_both Write n a b w

-- the numbers below n, in their order
abbrev pub upto : ℕ → List ℕ
upto zero = []
upto (suc n) = upto n ++ (n ∷ [])

-- the wires of a layer: those of its read ports, then those of its write ports
abbrev pub wires_of : Layer → ℕ → ℕ → ℕ → Shape → Shape → List Wire
wires_of l n a b sa sb = flat_map (read_wires l n a b sa sb) (upto (over l sa sb).reads) ++ flat_map (write_wires l n a b sa sb) (upto (over l sa sb).writes)
