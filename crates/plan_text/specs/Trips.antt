-- What the two round trips answer.
use Rattle.std.specs.Prelude.{◌≡◌, ℕ, ◌+◌, ◌<◌, ◌≤◌, List, ◌++◌, length, take, drop, Ok, Err, Result}
use Rattle.node.specs.declared.node.Node.{Node}
use Rattle.node.specs.Plans.{Checked}
use Rattle.plan_text.specs.declared.faults.ReadFault.TheVariants as reading
use Rattle.plan_text.specs.declared.faults.TripFault.{TripFault}
use Rattle.plan_text.specs.declared.faults.TripFault.TheVariants as trip
use Rattle.plan_text.specs.declared.faults.WriteFault.TheVariants as writing
use Rattle.plan_text.specs.Texts.{TextRead, text_of}
use Rattle.plan_text.specs.Writing.{Passing, TextWritten}

-- a text is read into a node buffer without fault; P holds of the nodes
abbrev pub ReadAs : List ℕ → List Node → List Node → (List Node → Type 0) → Type 0
ReadAs text old new P = (count : ℕ) × TextRead text old new (Ok count) × P (take count new)

-- a text that is read and whose nodes pass the check is written back byte for byte, where it has room
abbrev pub Rewritten : List ℕ → List Node → List Node → List ℕ → List ℕ → Result ℕ TripFault → Type 0
Rewritten text old new out out' (Ok n) = ReadAs text old new Passing × (n ≡ length text) × (n ≤ length out) × (out' ≡ text ++ drop n out)
Rewritten text old new out out' (Err (trip.Read f)) = TextRead text old new (Err f) × (out' ≡ out)
Rewritten text old new out out' (Err (trip.Write (writing.Check f))) = ReadAs text old new (λ ns. Checked ns (Err f)) × (out' ≡ out)
Rewritten text old new out out' (Err (trip.Write writing.NoRoom)) = ReadAs text old new Passing × (length out < length text) × (out' ≡ out)

-- nodes that pass the check are written and read back the same, where both buffers have room; a
-- node buffer that is too short gets as many as it holds
abbrev pub Reread : List Node → List ℕ → List ℕ → List Node → List Node → Result ℕ TripFault → Type 0
Reread ns out out' old new (Ok n) = TextWritten ns out out' (Ok (length (text_of ns))) × (n ≡ length ns) × (n ≤ length old) × (new ≡ ns ++ drop n old)
Reread ns out out' old new (Err (trip.Read f)) = TextWritten ns out out' (Ok (length (text_of ns))) × (f ≡ reading.NoPlace (length old + 1)) × (length old < length ns) × (new ≡ take (length old) ns)
Reread ns out out' old new (Err (trip.Write f)) = TextWritten ns out out' (Err f) × (new ≡ old)
