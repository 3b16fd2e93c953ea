-- The steps of the numeral reader: the number that a front of the digits writes.
use Rattle.std.proofs.Common.{◌≡◌, ℕ, ◌+◌, ◌-◌, ◌*◌, ◌^◌, ◌<◌, ◌≤◌, List, length, get_or, take, decimal, sym, ap, ◌∙◌, subst, ⊎_elim, arith}
use Rattle.std.proofs.lemmas.Fmt.{decimal-digits_value, digits_value-decimal, digits_decimal, decimal_nonempty, length-decimal-le, first_decimal, decimal_digit}
use Rattle.std.proofs.lemmas.Bool.{cases_lt}
use Rattle.std.specs.Str.Parse.{AllDigits, digits_value}
use Rattle.std.specs.Char.{digit_value as digitValue}
use Rattle.std.specs.Int.{IsInRange}
use Rattle.std.proofs.lemmas.Int.Digits.{digits_more, digits_value_more}
use Rattle.std.proofs.lemmas.Str.Parse.{IsNumeralModel, numerals_by_value, tells_digits, digits_value_short, digit_at}
use Rattle.std.proofs.lemmas.List.{length-take-le, take_all}
use Rattle.std.proofs.lemmas.Bool.Decides.{nat_tests}
use Rattle.text.specs.Numbers.{Canonical}

pub own : IsNumeralModel (AllDigits 10) (digits_value 10)
own = numerals_by_value (AllDigits 10) tells_digits

-- n is what the first i bytes write
pub record Sofar (bs : List ℕ) (i n : ℕ) : Type 0 where
  pub digits : AllDigits 10 (take i bs)
  pub is : n ≡ digits_value 10 (take i bs)

pub digit_value : (b : ℕ) → 48 ≤ b → b < 58 → digitValue b ≡ b - 48
digit_value b h k = grind (arith, nat_tests)

module _ {bs : List ℕ} {i n : ℕ} (s : Sofar bs i n) where
  pub room : i < length bs → length bs ≤ 20 → n < 10 ^ 19
  room l short = rw s.is (digits_value_short own (take i bs) 19 s.digits (omega (arith, length-take-le i bs (omega arith))))

  pub more : i < length bs → 48 ≤ get_or bs i 0 → get_or bs i 0 < 58 → Sofar bs (i + 1) (n * 10 + (get_or bs i 0 - 48))
  more l low high =
      let d = digit_value _ low high in
      record {
        digits = digits_more 10 bs i l s.digits (rw d (omega arith));
        is = (λ j. s.is j * 10 + sym d j) ∙ sym (digits_value_more 10 bs i l);
      }

  pub done : length bs ≤ i → AllDigits 10 bs × (n ≡ digits_value 10 bs)
  done all = let e = take_all i bs all in (rw e at s.digits, s.is ∙ ap (digits_value 10) e)

pub not_digit : {bs : List ℕ} (i : ℕ) → i < length bs → (IsInRange 48 57 (get_or bs i 0) → ⊥) → Canonical bs → ⊥
not_digit {bs} i l not c = not (digit_at bs i c.digits l)

-- what a number is written as
pub canonical_decimal : (n : ℕ) → n < 2 ^ 64 → Canonical (decimal n)
canonical_decimal n small = record {
  digits = digits_decimal own n small;
  some = decimal_nonempty n small;
  short = length-decimal-le 20 n (omega arith) (omega arith) small;
  bare = λ e. ⊎_elim (λ one. ap length (decimal_digit n one)) (λ more. let f = first_decimal n (omega arith) small in absurd (omega arith)) (cases_lt n 10);
}

-- a field that has a number's value is what the number is written as
pub written : {f : List ℕ} {v : ℕ} → Canonical f → v ≡ digits_value 10 f → v < 2 ^ 64 → f ≡ decimal v
written {f} c e small = sym (ap decimal e ∙ decimal-digits_value own f c.digits c.some c.bare (subst (λ k. k < 2 ^ 64) e small))

-- and what a number is written as has its value
pub valued : {f : List ℕ} {v : ℕ} (n : ℕ) → v ≡ digits_value 10 f → f ≡ decimal n → n < 2 ^ 64 → v ≡ n
valued n e is small = e ∙ ap (digits_value 10) is ∙ digits_value-decimal own n small
