-- What tells words apart: words of the same numbers are the same, and so are words of the same code.
use Rattle.std.specs.Prelude.{◌≡◌, ℕ, ◌+◌, ◌*◌, ◌/◌, ◌%◌, ◌^◌, ◌<◌}
use Rattle.std.proofs.Common.{sym, ap, ◌∙◌}
use mathlib.Core.HLevel.{×_prop, is_prop→PathP}
use Rattle.std.proofs.Math.Bridge.{le_prop}
use Rattle.std.proofs.Math.Arith.{digits_div, digits_mod}
use Rattle.kinds.specs.declared.bits32.Bits32.{Bits32}
use Rattle.kinds.specs.declared.bits64.Bits64.{Bits64}
use Rattle.kinds.specs.declared.stereo.Stereo.{Stereo}
use Rattle.kinds.specs.declared.order.Order.{Order}
use Rattle.kinds.specs.Stereos.{stereo_code}
use Rattle.kinds.specs.Orders.{order_code}

-- what is made of a number below a limit depends on the number alone
number_same : {W : Type 0} (limit : ℕ) (make : (n : ℕ) → n < limit → W) (m n : ℕ) (h : m < limit) (k : n < limit) → m ≡ n → make m h ≡ make n k
number_same limit make m n h k e = λ i. make (e i) (is_prop→PathP (λ i. e i < limit) (λ i. le_prop) h k i)

-- what is made of two numbers below limits depends on the numbers alone
pair_same : {W : Type 0} (high low : ℕ) (make : (m n : ℕ) → (m < high) × (n < low) → W) (m n p q : ℕ) (h : (m < high) × (n < low)) (k : (p < high) × (q < low)) → m ≡ p → n ≡ q → make m n h ≡ make p q k
pair_same high low make m n p q h k e f =
    λ i. make (e i) (f i) (is_prop→PathP (λ i. (e i < high) × (f i < low)) (λ i. ×_prop le_prop le_prop) h k i)

-- equal numbers in two digits have the same high digit
high_digit : (base m n p q : ℕ) → n < base → q < base → m * base + n ≡ p * base + q → m ≡ p
high_digit base m n p q h k e = sym (digits_div m h) ∙ ap (λ x. x / base) e ∙ digits_div p k

-- equal numbers in two digits have the same low digit
low_digit : (base m n p q : ℕ) → n < base → q < base → m * base + n ≡ p * base + q → n ≡ q
low_digit base m n p q h k e = sym (digits_mod m h) ∙ ap (λ x. x % base) e ∙ digits_mod p k

-- words of the same 32 bits are the same
pub bits32_same : (u v : Bits32) → u.bits ≡ v.bits → u ≡ v
bits32_same u v = number_same (2 ^ 32) (λ n h. record { bits = n; small = h }) u.bits v.bits u.small v.small

-- words of the same 64 bits are the same
pub bits64_same : (u v : Bits64) → u.bits ≡ v.bits → u ≡ v
bits64_same u v = number_same (2 ^ 64) (λ n h. record { bits = n; small = h }) u.bits v.bits u.small v.small

-- words of the same samples are the same
pub stereo_same : (u v : Stereo) → u.left ≡ v.left → u.right ≡ v.right → u ≡ v
stereo_same u v = pair_same 65536 65536 (λ m n h. record { left = m; right = n; small = h }) u.left u.right v.left v.right u.small v.small

-- orders of the same opcode and operand are the same
pub order_same : (u v : Order) → u.opcode ≡ v.opcode → u.operand ≡ v.operand → u ≡ v
order_same u v = pair_same 100 1000 (λ m n h. record { opcode = m; operand = n; small = h }) u.opcode u.operand v.opcode v.operand u.small v.small

-- samples of the same code are the same
pub stereo_apart : (u v : Stereo) → stereo_code u ≡ stereo_code v → u ≡ v
stereo_apart u v e =
    stereo_same u v
    (high_digit 65536 u.left u.right v.left v.right u.small.1 v.small.1 e)
    (low_digit 65536 u.left u.right v.left v.right u.small.1 v.small.1 e)

-- orders of the same code are the same
pub order_apart : (u v : Order) → order_code u ≡ order_code v → u ≡ v
order_apart u v e =
    order_same u v
    (high_digit 1000 u.opcode u.operand v.opcode v.operand u.small.1 v.small.1 e)
    (low_digit 1000 u.opcode u.operand v.opcode v.operand u.small.1 v.small.1 e)
