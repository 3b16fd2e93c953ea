-- The ports of two halves side by side.
use Rattle.std.specs.Prelude.{ℕ, ◌-◌, nat_lt, if◌then◌else◌}

-- the first n are A's, the others B's
abbrev pub beside : {X : Type 0} → ℕ → (ℕ → X) → (ℕ → X) → ℕ → X
beside n f g q = if nat_lt q n then f q else g (q - n)
