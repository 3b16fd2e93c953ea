-- A text at the front of a buffer, as far as it has room there.
use Rattle.std.specs.Prelude.{◌≡◌, ℕ, ◌+◌, ◌<◌, ◌≤◌, List, ◌++◌, length, take, drop, Some, None, Option}

-- the largest number that a size can be
abbrev pub max_size : ℕ
max_size = 18446744073709551615

-- what adding bs at `at` does to a buffer, and where bs ends: where there is room, bs stands there and nothing
-- else changes; where there is none, nothing changes
abbrev pub Appended : List ℕ → List ℕ → Option ℕ → List ℕ → Option ℕ → Type 0
Appended old new None bs r = (r ≡ None) × (new ≡ old)
Appended old new (Some at) bs (Some end) =
    (end ≡ at + length bs) × (end ≤ length old → new ≡ take at old ++ (bs ++ drop end old)) × (length old < end → new ≡ old)
Appended old new (Some at) bs None = (max_size < at + length bs) × (new ≡ old)

-- a text is at the front of a buffer that was old and is new, if it has room there; with its length, or none where
-- it is too long for any buffer
pub data Page (old new text : List ℕ) : Option ℕ → Type 0 where
  sized : {size : ℕ} → size ≡ length text → length new ≡ length old → (size ≤ length old → new ≡ text ++ drop size old) → Page old new text (Some size)
  endless : max_size < length text → length new ≡ length old → Page old new text None

-- bs is added to any text that a buffer which was old has at its front up to `at`; it then ends at `end`
pub record Extends (old new : List ℕ) (at : Option ℕ) (bs : List ℕ) (end : Option ℕ) : Type 0 where
  pub adds : (was text : List ℕ) → Page was old text at → Page was new (text ++ bs) end

-- a size that is measured is within the room, or is not
abbrev pub Within : Option ℕ → ℕ → Option ℕ → Type 0
Within size room (Some n) = (size ≡ Some n) × (n ≤ room)
Within None room None = Unit {0}
Within (Some n) room None = room < n
