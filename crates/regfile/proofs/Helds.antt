-- What a slot's port tells is what the register file holds there.
use Rattle.std.proofs.Common.{◌≡◌, ℕ, length, None, refl, arith}
use Rattle.std.proofs.lemmas.Bool.Decides.{nat_tests}
use Rattle.memory.specs.Meaning.{address}
use Rattle.memory.specs.Calls.{HeldAt}
use Rattle.port.specs.declared.WritePort.{WritePort}
use Rattle.port.specs.declared.WritePort.TheVariants.{Free, Holding}
use Rattle.port.specs.Ports.{held, latched}
use Rattle.regfile.specs.declared.regfile.RegFile.{RegFile}
use Rattle.regfile.specs.Limits.{write_ports}
use Rattle.regfile.specs.Slots.{port_at}
use Rattle.regfile.specs.RegFiles.{meant}
use Rattle.regfile.proofs.Stores.{holding_slot}

tells : {W : Type 0} (p : WritePort) (w : W) → held p ≡ address (latched p w)
tells Free w = refl
tells (Holding x) w = refl

tells_none : (p : WritePort) → ((x : ℕ) → p ≡ Holding x → ⊥) → held p ≡ None
tells_none Free none = refl
tells_none (Holding x) none = absurd (none x refl)

pub held_at : (s : RegFile) (q : ℕ) → length s.slots ≡ write_ports → HeldAt (meant s) q (held (port_at s.slots q))
held_at s q two = record {
  inside = λ h. tells _ _;
  beyond = λ h. tells_none _ (λ x e.
      let low = s.within q x e in
      let inside = holding_slot s.slots q x two e in
      grind (arith, nat_tests));
}
