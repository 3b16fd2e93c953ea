-- The laws of the sums, on plain numbers: the exclusive or, and one side of stereo samples.
use Rattle.std.specs.Prelude.{◌≡◌, ℕ, ◌+◌, ◌-◌, ◌%◌, ◌<◌}
use Rattle.std.proofs.Common.{ap, ◌∙◌, arith}
use Rattle.std.specs.Int.Bits.{bit_xor, xor_assoc, xor_self, xor_zero_r}

-- to take a number away and add it again changes nothing
pub xor_restores : (m n : ℕ) → bit_xor (bit_xor n m) m ≡ n
xor_restores m n = xor_assoc n m m ∙ ap (bit_xor n) (xor_self m) ∙ xor_zero_r n

-- one side of a sum, in either order
pub side_commutes : (m n : ℕ) → (m + n) % 65536 ≡ (n + m) % 65536
side_commutes m n = omega arith

-- one side of a sum of three, in either grouping
pub side_associates : (m n p : ℕ) → ((m + n) % 65536 + p) % 65536 ≡ (m + (n + p) % 65536) % 65536
side_associates m n p = omega arith

-- to take a sample away and add it again changes nothing
pub side_restores : (m n : ℕ) → m < 65536 → n < 65536 → ((n + (65536 - m)) % 65536 + m) % 65536 ≡ n
side_restores m n h k = omega arith

-- to add silence changes nothing
pub side_unit : (m : ℕ) → m < 65536 → (m + 0) % 65536 ≡ m
side_unit m h = omega arith
