-- Words of 64 bits as two of 32.
use Rattle.std.specs.Prelude.{◌+◌, ◌*◌, ◌/◌, ◌%◌, ◌^◌}
use Rattle.std.proofs.Common.{mod-lt, div-lt_iff_lt-mul, lit<}
use Rattle.std.proofs.Math.Arith.{digits_lt}
use Rattle.kinds.specs.declared.bits32.Bits32.{Bits32}
use Rattle.kinds.specs.declared.bits64.Bits64.{Bits64}

-- 64 bits: the low 32, and the high 32 above them
unfoldable pub wide : Bits32 → Bits32 → Bits64
wide u v = record { bits = v.bits * 2 ^ 32 + u.bits; small = digits_lt v.small u.small }

-- the low 32 of 64 bits
abbrev pub low_half : Bits64 → Bits32
low_half w = record { bits = w.bits % 2 ^ 32; small = mod-lt w.bits (lit< tt) }

-- the high 32 of 64 bits
abbrev pub high_half : Bits64 → Bits32
high_half w = record { bits = w.bits / 2 ^ 32; small = (div-lt_iff_lt-mul (lit< tt)).1 w.small }
