-- The steps of a register file's edge and of its configuration, which no other crate sees.
use Rattle.std.specs.Prelude.{◌≡◌, ℕ, false, length, replicate}
use Rattle.kinds.specs.Bits.{bits64_zero}
use Rattle.port.specs.declared.WritePort.TheVariants.{Free}
use Rattle.regfile.specs.Limits.{max_words, read_ports, write_ports}
use Rattle.regfile.specs.Slots.{port_at, latch_at, landed_all}
use Rattle.regfile.specs.declared.regfile.RegFile.{RegFile}

-- the held words are at their addresses, for which there is room, and nothing else has changed
pub record Landed (s s' : RegFile) : Type 0 where
  pub room : length s.words ≡ max_words
  pub both : length s.slots ≡ write_ports
  pub depth : s'.depth ≡ s.depth
  pub words : s'.words ≡ landed_all s.slots s.words
  pub used : s'.used ≡ s.used
  pub slots : s'.slots ≡ s.slots

-- every port is free, and nothing else has changed
pub record Freed (s s' : RegFile) : Type 0 where
  pub depth : s'.depth ≡ s.depth
  pub words : s'.words ≡ s.words
  pub used : s'.used ≡ replicate read_ports false
  pub ports : (q : ℕ) → port_at s'.slots q ≡ Free
  pub latches : (q : ℕ) → latch_at s'.slots q ≡ latch_at s.slots q

-- every word is zero, and nothing else has changed
pub record Wiped (s s' : RegFile) : Type 0 where
  pub depth : s'.depth ≡ s.depth
  pub words : s'.words ≡ replicate max_words bits64_zero
  pub used : s'.used ≡ s.used
  pub slots : s'.slots ≡ s.slots
