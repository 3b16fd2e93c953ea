-- The numbers of the refusals.
use Rattle.std.specs.Prelude.{ℕ}
use Rattle.memory.specs.declared.refusal.Refusal.{Refusal}
use Rattle.memory.specs.declared.refusal.Refusal.TheVariants.{NoPort, NoAddress, Busy, Held}

-- the number of each refusal
abbrev pub refusal : Refusal → ℕ
refusal NoPort = 1
refusal NoAddress = 2
refusal Busy = 3
refusal Held = 4
