-- The write ports of a register file are tidy.
use Rattle.std.specs.Prelude.{◌≡◌, ℕ, ◌<◌, Bool, List}
use Rattle.kinds.specs.declared.bits64.Bits64.{Bits64}
use Rattle.memory.specs.Meaning.{Tidy}
use Rattle.port.specs.declared.WritePort.TheVariants.{Holding}
use Rattle.port.proofs.Ports.{holds_address}
use Rattle.regfile.specs.declared.slot.Slot.{Slot}
use Rattle.regfile.specs.Slots.{port_at}
use Rattle.regfile.specs.RegFiles.{filed}

-- where what they hold lies below the depth, and apart
pub file_tidy : (d : ℕ) (words : List Bits64) (used : List Bool) (slots : List Slot) → ((q x : ℕ) → port_at slots q ≡ Holding x → x < d) → ((q q' x : ℕ) → port_at slots q ≡ Holding x → port_at slots q' ≡ Holding x → q ≡ q') → Tidy (filed d words used slots)
file_tidy d words used slots within apart = record {
  within = λ q x h e. within q x (holds_address _ _ x e);
  apart = λ q q' x h h' e e'. apart q q' x (holds_address _ _ x e) (holds_address _ _ x e');
}
