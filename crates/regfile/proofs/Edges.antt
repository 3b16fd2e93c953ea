-- What the edge leaves: both held words land, and every port is free.
use Rattle.std.proofs.Common.{◌≡◌, ℕ, zero, suc, ◌<◌, List, [], ◌∷◌, length, get_or, refl, ap, ◌∙◌, arith}
use Rattle.std.proofs.lemmas.Bool.Decides.{nat_tests}
use Rattle.kinds.specs.declared.bits64.Bits64.{Bits64}
use Rattle.kinds.specs.Bits.{bits64_zero}
use Rattle.memory.specs.Meaning.{holding, address}
use Rattle.memory.specs.Calls.{Edged}
use Rattle.port.specs.declared.WritePort.{WritePort}
use Rattle.port.specs.declared.WritePort.TheVariants.{Holding}
use Rattle.port.specs.Ports.{landed, latched}
use Rattle.port.proofs.Ports.{holds_word, landed_here, landed_elsewhere, landed_length}
use Rattle.regfile.specs.declared.slot.Slot.{Slot}
use Rattle.regfile.specs.declared.regfile.RegFile.{RegFile}
use Rattle.regfile.specs.Limits.{write_ports}
use Rattle.regfile.specs.Slots.{port_at, latch_at, landed_all}
use Rattle.regfile.specs.RegFiles.{meant}
use Rattle.regfile.specs.Steps.{Freed, Landed}
use Rattle.regfile.proofs.Frees.{same_shape, reads_free, writes_free}

-- the first slot's word lands first, and then the second's
landed_both : (slots : List Slot) (words : List Bits64) → length slots ≡ write_ports → landed_all slots words ≡ landed (port_at slots 1) (latch_at slots 1) (landed (port_at slots 0) (latch_at slots 0) words)
landed_both [] words two = absurd (omega arith)
landed_both (s ∷ []) words two = absurd (omega arith)
landed_both (s ∷ t ∷ []) words two = refl
landed_both (s ∷ t ∷ u ∷ slots) words two = absurd (omega arith)

-- from s by way of mid, in which the words have landed
module _ (s mid s' : RegFile) (moved : Landed s mid) (freed : Freed mid s') where
  words_are : mid.words ≡ landed (port_at s.slots 1) (latch_at s.slots 1) (landed (port_at s.slots 0) (latch_at s.slots 0) s.words)
  words_are = moved.words ∙ landed_both s.slots s.words moved.both

  -- a held word lands at its address
  lands : (q x : ℕ) (w : Bits64) → q < write_ports → latched (port_at s.slots q) (latch_at s.slots q) ≡ holding x w → get_or mid.words x bits64_zero ≡ w
  lands zero x w h e =
      let held = holds_word (port_at s.slots 0) (latch_at s.slots 0) w x e in
      let low = s.within 0 x held.0 in
      let deep = s.deep in
      let room = moved.room in
      ap (λ (ws : List Bits64). get_or ws x bits64_zero) words_are
      ∙ landed_elsewhere (port_at s.slots 1) (latch_at s.slots 1) bits64_zero _ x (λ e. let both : 0 ≡ 1 = s.apart 0 1 x held.0 e in omega arith)
      ∙ landed_here (port_at s.slots 0) (latch_at s.slots 0) bits64_zero s.words x held.0 (omega arith)
      ∙ held.1
  lands (suc zero) x w h e =
      let held = holds_word (port_at s.slots 1) (latch_at s.slots 1) w x e in
      let low = s.within 1 x held.0 in
      let deep = s.deep in
      let room = moved.room in
      let still = landed_length (port_at s.slots 0) (latch_at s.slots 0) s.words in
      ap (λ (ws : List Bits64). get_or ws x bits64_zero) words_are
      ∙ landed_here (port_at s.slots 1) (latch_at s.slots 1) bits64_zero _ x held.0 (omega arith)
      ∙ held.1
  lands (suc (suc q)) x w h e = absurd (omega arith)

  -- other words stay
  stays : (x : ℕ) → ((q : ℕ) → q < write_ports → port_at s.slots q ≡ Holding x → ⊥) → get_or mid.words x bits64_zero ≡ get_or s.words x bits64_zero
  stays x idle =
      ap (λ (ws : List Bits64). get_or ws x bits64_zero) words_are
      ∙ landed_elsewhere (port_at s.slots 1) (latch_at s.slots 1) bits64_zero _ x (idle 1 (omega arith))
      ∙ landed_elsewhere (port_at s.slots 0) (latch_at s.slots 0) bits64_zero s.words x (idle 0 (omega arith))

  pub edge_leaves : Edged (meant s) (meant s')
  edge_leaves = record {
    shape = same_shape s s' (freed.depth ∙ moved.depth);
    landed = λ q x w h e. ap (λ (ws : List Bits64). get_or ws x bits64_zero) freed.words ∙ lands q x w (grind (arith, nat_tests)) e;
    kept = λ x h idle.
        ap (λ (ws : List Bits64). get_or ws x bits64_zero) freed.words
        ∙ stays x (λ q hq e. idle q (grind (arith, nat_tests)) (ap (λ (p : WritePort). address (latched p (latch_at s.slots q))) e));
    used = λ q h. reads_free mid s' freed q;
    ports = λ q h. writes_free mid s' freed q;
  }
