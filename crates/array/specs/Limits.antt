-- How deep an array is.
use Rattle.std.specs.Prelude.{ℕ, ◌-◌, min}

-- the largest depth of an array
abbrev pub max_words : ℕ
max_words = 1024

-- the depth over n cells, of which the last is the latch: fewer than two cells hold no word
abbrev pub depth_over : ℕ → ℕ
depth_over n = min (n - 1) max_words
