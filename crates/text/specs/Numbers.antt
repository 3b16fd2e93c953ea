-- What a number field is.
use Rattle.std.specs.Prelude.{◌≡◌, ℕ, ◌-◌, ◌<◌, ◌≤◌, List, length, Some, None, Option, slice_index_or}
use Rattle.std.specs.Str.Parse.{AllDigits, digits_value}

-- the value of a decimal digit (bytes 48 to 57), or none where a byte is no digit
abbrev pub DigitRead : ℕ → Option ℕ → Type 0
DigitRead b (Some d) = (48 ≤ b) × (b ≤ 57) × (d ≡ b - 48)
DigitRead b None = 48 ≤ b → b ≤ 57 → ⊥

-- 1 to 20 decimal digits; where the first is 0 (byte 48) it is the only one
pub record Canonical (ds : List ℕ) : Type 0 where
  pub digits : AllDigits 10 ds
  pub some : 0 < length ds
  pub short : length ds ≤ 20
  pub bare : slice_index_or ds 0 0 ≡ 48 → length ds ≡ 1

-- what the reader of a number answers: its decimal value, or none where the bytes are no number
abbrev pub NumberRead : List ℕ → Option ℕ → Type 0
NumberRead bs (Some n) = Canonical bs × (n ≡ digits_value 10 bs)
NumberRead bs None = Canonical bs → ⊥
