use Rattle.std.proofs.Common.{◌≡◌, ◌<◌, length, ap, ◌∙◌, arith, rules}
use Rattle.std.proofs.lemmas.Bool.Decides.{nat_tests}
use Rattle.std.proofs.lemmas.List.{get_or_default}
use Rattle.memory.specs.Meaning.{address}
use Rattle.port.specs.declared.WritePort.{WritePort}
use Rattle.port.specs.declared.WritePort.TheVariants.{Holding}
use Rattle.port.specs.declared.Event.TheVariants.{Store}
use Rattle.port.specs.Ports.{latched, stepped}
use Rattle.port.proofs.Ports.{store_holds}
use Rattle.regfile.specs.declared.slot.Slot.{Slot}
use Rattle.regfile.specs.Limits.{write_ports}
use Rattle.regfile.specs.Slots.{vacant, port_at, latch_at}
use Rattle.regfile.proofs.Stores.{holding_slot, store_within, store_apart}
use Rattle.regfile.proofs.regfile_memory.RegFileMemory.write.Goals as goal

pub invariant_of-self : goal.invariant_of-self
invariant_of-self c =
    let old = c.args.self.now in
    let slots = old.slots in
    let may = c.in_ok-may_write.ensures tt in
    let p = c.args.port in
    let x = c.args.address in
    let two : length slots ≡ write_ports = search rules in
    let room : p < length slots = grind (arith, nat_tests) in
    let here = get_or_default slots p c.index-self-port.result vacant room in
    let holds : c.store.result.port ≡ Holding x =
    ap (λ (s : Slot). s.port) c.store.ensures ∙ ap (λ (s : Slot). stepped s.port (Store x)) here ∙ store_holds (port_at slots p) (latch_at slots p) x may.2 in
    record {
      deep = old.deep;
      within = store_within slots p x c.store.result holds room old.depth may.1 old.within;
      apart =
          store_apart slots p x c.store.result holds room
          (λ q e. may.3 q (let inside = holding_slot slots q x two e in grind (arith, nat_tests)) (ap (λ (t : WritePort). address (latched t (latch_at slots q))) e))
          old.apart;
    }
