-- Lines that are made up and put into a buffer.
use Rattle.std.specs.Prelude.{◌≡◌, ℕ, ◌+◌, ◌<◌, ◌≤◌, List, ◌++◌, length, take, drop, Some, None, Option}
use Rattle.text.specs.declared.line.LineBuffer.{LineBuffer}

-- what a line buffer holds
abbrev pub line_text : LineBuffer → List ℕ
line_text l = take l.len l.bytes

-- as much as a line buffer keeps
unfoldable pub capped : List ℕ → List ℕ
capped bs = take 64 bs

-- bs is added to a line that holds old, which then holds new
pub record Adds (old bs new : List ℕ) : Type 0 where
  pub is : new ≡ capped (old ++ bs)

-- bs is written at `at` and ends at `end`, and nothing else changes
pub record Put (old new : List ℕ) (at : ℕ) (bs : List ℕ) (end : ℕ) : Type 0 where
  pub ends : end ≡ at + length bs
  pub room : end ≤ length old
  pub is : new ≡ take at old ++ (bs ++ drop end old)

-- bs is written at `at`, or has no room there and nothing changes
abbrev pub PutAt : List ℕ → List ℕ → ℕ → List ℕ → Option ℕ → Type 0
PutAt old new at bs (Some end) = Put old new at bs end
PutAt old new at bs None = (length old < at + length bs) × (new ≡ old)
