-- What a kind's letter says of its words: the range of their codes, and whether they have a sum.
use Rattle.std.specs.Prelude.{ℕ, Bool, true, false}
use Rattle.word.specs.declared.Letter.{Letter}
use Rattle.word.specs.declared.Letter.TheVariants.{H, B, S, O}

-- the largest code of the letter's row; the smallest is 0
abbrev pub last_code : Letter → ℕ
last_code H = 4294967295
last_code B = 18446744073709551615
last_code S = 4294967295
last_code O = 99999

-- whether the letter's kinds are groups
abbrev pub summed : Letter → Bool
summed H = true
summed B = true
summed S = true
summed O = false
