-- A memory in order as a half.
use Rattle.std.proofs.Common.{◌≡◌, ℕ, ◌<◌, ◌^◌, pos, unsigned_abs, Ok, Err, Result}
use Rattle.std.specs.Result.{OkIff, result_unwrap_or}
use Rattle.std.specs.Int.{FitsUnsignedBits}

-- a number that its type holds is converted
pub converted : {E : Type 0} (bits n top : ℕ) (r : Result ℕ E) → OkIff r (FitsUnsignedBits bits (pos n)) (unsigned_abs (pos n)) → n < 2 ^ bits → result_unwrap_or r top ≡ n
converted bits n top (Ok x) h fits = h.1
converted bits n top (Err e) h fits = absurd (h fits)
