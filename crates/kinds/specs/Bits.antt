-- Words of 32 and of 64 bits: their zeros, their codes, and the exclusive or, which is both sum and difference.
use Rattle.std.specs.Prelude.{ℕ}
use Rattle.std.specs.Int.Bits.{bit_xor}
use Rattle.std.proofs.lemmas.Nat.{xor_lt}
use Rattle.std.proofs.Common.{lit<}
use Rattle.kinds.specs.declared.bits32.Bits32.{Bits32}
use Rattle.kinds.specs.declared.bits64.Bits64.{Bits64}

-- 32 bits, none of them set
abbrev pub bits32_zero : Bits32
bits32_zero = record { bits = 0; small = lit< tt }

-- 64 bits, none of them set
abbrev pub bits64_zero : Bits64
bits64_zero = record { bits = 0; small = lit< tt }

-- the code of 32 bits is their number
abbrev pub bits32_code : Bits32 → ℕ
bits32_code w = w.bits

-- the code of 64 bits is their number
abbrev pub bits64_code : Bits64 → ℕ
bits64_code w = w.bits

-- 32 bits, set where just one of the two words has them set
abbrev pub bits32_xor : Bits32 → Bits32 → Bits32
bits32_xor u v = record { bits = bit_xor u.bits v.bits; small = xor_lt 32 u.bits v.bits u.small v.small }

-- 64 bits, set where just one of the two words has them set
abbrev pub bits64_xor : Bits64 → Bits64 → Bits64
bits64_xor u v = record { bits = bit_xor u.bits v.bits; small = xor_lt 64 u.bits v.bits u.small v.small }
