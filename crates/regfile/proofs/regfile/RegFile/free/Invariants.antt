use Rattle.std.proofs.Common.{◌≡◌, ℕ, ◌<◌, length}
use Rattle.port.specs.declared.WritePort.TheVariants.{Free}
use Rattle.regfile.specs.Limits.{write_ports}
use Rattle.regfile.specs.Slots.{port_at, latch_at}
use Rattle.regfile.proofs.regfile.RegFile.free.Given as goal

-- the ports so far are free, and the latches as they were
abbrev pub invariant-loop-slot : goal.invariant-loop-slot
invariant-loop-slot l =
    (length l.slot-items ≡ write_ports)
    × ((q : ℕ) → q < l.slot-index → port_at l.slot-items q ≡ Free)
    × ((q : ℕ) → latch_at l.slot-items q ≡ latch_at l.initial.slot-items q)
