-- A walk over a list by `[first, rest @ ..]`, up to a separator.
use Rattle.std.proofs.Common.{◌≡◌, ℕ, ◌+◌, ◌<◌, List, length, get_or, drop}

-- the walk over bs has come to n: left is what is to come, and no byte before it is s
pub record Walk (s : ℕ) (bs left : List ℕ) (n : ℕ) : Type 0 where
  pub sum : n + length left ≡ length bs
  pub at : left ≡ drop n bs
  pub free : (k : ℕ) → k < n → get_or bs k 0 ≡ s → ⊥
