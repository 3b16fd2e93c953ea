-- The slots of a register file: each a write port, with the latch in which its word waits.
use Rattle.std.specs.Prelude.{ℕ, List, [], ◌∷◌, slice_index_or}
use Rattle.kinds.specs.declared.bits64.Bits64.{Bits64}
use Rattle.kinds.specs.Bits.{bits64_zero}
use Rattle.port.specs.declared.WritePort.{WritePort}
use Rattle.port.specs.declared.WritePort.TheVariants.{Free}
use Rattle.port.specs.Ports.{landed}
use Rattle.regfile.specs.declared.slot.Slot.{Slot}

-- a free port, with zero in its latch
abbrev pub vacant : Slot
vacant = record { port = Free; latch = bits64_zero }

-- the write port of slot q, free past the last
abbrev pub port_at : List Slot → ℕ → WritePort
port_at slots q = (slice_index_or slots q vacant).port

-- the latch of slot q, zero past the last
abbrev pub latch_at : List Slot → ℕ → Bits64
latch_at slots q = (slice_index_or slots q vacant).latch

-- the words after each slot's word has gone to the address that its port holds, the first slot's first
abbrev pub landed_all : List Slot → List Bits64 → List Bits64
landed_all [] words = words
landed_all (s ∷ slots) words = landed_all slots (landed s.port s.latch words)
