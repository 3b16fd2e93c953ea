use Rattle.std.proofs.Common.{◌≡◌, length, drop}
use Rattle.regfile.specs.Slots.{landed_all}
use Rattle.regfile.proofs.slot.land_all.Given as goal

-- the slots that are left finish what all were to do
abbrev pub invariant-loop-slot : goal.invariant-loop-slot
invariant-loop-slot l =
    (length l.words ≡ length l.initial.words) × (landed_all (drop l.slot-index l.slots) l.words ≡ landed_all l.slots l.initial.words)
