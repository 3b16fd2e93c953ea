-- Words of 64 bits as two of 32: the halves of a word make it again, and halves of zero make zero.
use mathlib.Core.Path.{◌≡◌, refl}
use Prim.Native.Nat.{◌^◌}
use native.Mathlib.Nat.{div-add-mod'}
use Rattle.kinds.specs.declared.bits64.Bits64.{Bits64}
use Rattle.kinds.specs.Bits.{bits32_zero, bits64_zero}
use Rattle.kinds.specs.Apart.{bits64_same}
use Rattle.width.specs.Words.{wide, low_half, high_half}

-- the halves of a word make it again
pub wide_halves : (w : Bits64) → wide (low_half w) (high_half w) ≡ w
unfolding wide
wide_halves w = bits64_same _ _ (div-add-mod' w.bits (2 ^ 32))

-- halves of zero make zero
pub wide_zero : wide bits32_zero bits32_zero ≡ bits64_zero
unfolding wide
wide_zero = bits64_same _ _ refl
