-- A text that is measured, and written where it has room.
use Rattle.std.specs.Prelude.{◌≡◌, ℕ, ◌<◌, ◌≤◌, List, ◌++◌, length, drop, Some, None, Ok, Err, Option, Result}
use Rattle.page.specs.declared.faults.RoomFault.{RoomFault}
use Rattle.page.specs.declared.faults.RoomFault.TheVariants.{NoRoom}

-- what is said of a text leaves no choice of its bytes
abbrev pub Sole : (List ℕ → Type 0) → Type 0
Sole Says = (bytes others : List ℕ) → Says bytes → Says others → bytes ≡ others

-- the size of a text that has at most so many bytes, or none where it has more
abbrev pub Measured : (List ℕ → Type 0) → ℕ → Option ℕ → Type 0
Measured Says room (Some n) = (bs : List ℕ) × Says bs × (n ≡ length bs) × (n ≤ room)
Measured Says room None = (bs : List ℕ) × Says bs × (room < length bs)

-- a text is written to the front of a buffer, and its size is told; or it has no room, and the buffer is as it was
abbrev pub Written : (List ℕ → Type 0) → List ℕ → List ℕ → Result ℕ RoomFault → Type 0
Written Says old new (Ok n) = (bs : List ℕ) × Says bs × (n ≡ length bs) × (n ≤ length old) × (new ≡ bs ++ drop n old)
Written Says old new (Err NoRoom) = (bs : List ℕ) × Says bs × (length old < length bs) × (new ≡ old)
