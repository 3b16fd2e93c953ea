use Rattle.std.proofs.Common.{◌≡◌, length, sym, ap, ◌∙◌, subst, rules}
use Rattle.port.specs.Ports.{held}
use Rattle.regfile.specs.declared.slot.Slot.{Slot}
use Rattle.regfile.specs.Limits.{write_ports}
use Rattle.regfile.specs.Slots.{vacant}
use Rattle.regfile.specs.RegFiles.{meant}
use Rattle.memory.specs.Calls.{HeldAt}
use Rattle.regfile.proofs.Helds.{held_at}
use Rattle.regfile.proofs.regfile_memory.RegFileMemory.held.Goals as goal

pub returns : goal.returns
returns c = λ o.
    let s = c.args.self.now in
    let q = c.args.port in
    let two : length s.slots ≡ write_ports = search rules in
    let here = c.in_ok-get.ensures.lookup.3.1 vacant in
    let same = c.address.ensures ∙ ap (λ (t : Slot). held t.port) here in
    subst (HeldAt (meant s) q) (sym same) (held_at s q two)
