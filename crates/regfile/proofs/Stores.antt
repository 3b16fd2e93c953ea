-- The ports after a write: what they hold is still below the depth, and apart.
use Rattle.std.proofs.Common.{◌≡◌, ℕ, ◌<◌, List, length, set, sym, ap, ◌∙◌, inl, inr, arith, get_or-set_other, get_or-set_same}
use Rattle.std.proofs.lemmas.Bool.{cases_eq, cases_lt}
use Rattle.std.proofs.lemmas.List.{get_or_past}
use Rattle.port.specs.declared.WritePort.TheVariants.{Free, Holding}
use Rattle.regfile.specs.declared.slot.Slot.{Slot}
use Rattle.regfile.specs.Limits.{write_ports}
use Rattle.regfile.specs.Slots.{vacant, port_at}

-- a port that holds an address is one of the two
pub holding_slot : (slots : List Slot) (q x : ℕ) → length slots ≡ write_ports → port_at slots q ≡ Holding x → q < write_ports
holding_slot slots q x two e =
    elim (cases_lt q write_ports) [
      | inl lt ↦ lt
      | inr ge ↦
          (let past = get_or_past slots q vacant (omega arith) in
          let clash : Free ≡ Holding x = ap (λ (s : Slot). s.port) (sym past) ∙ e in
          cc)
    ]

module _ (slots : List Slot) (p x : ℕ) (t : Slot) (is : t.port ≡ Holding x) (room : p < length slots) where
  -- the new address is below the depth, as what each port holds
  pub store_within : (d : ℕ) → x < d → ((q y : ℕ) → port_at slots q ≡ Holding y → y < d) → (q y : ℕ) → port_at (set slots p t) q ≡ Holding y → y < d
  store_within d below low q y e =
      elim (cases_eq q p) [
        | inl here ↦
            (let new = get_or-set_same slots p t vacant room in
            let same : x ≡ y = cc in
            omega arith)
        | inr other ↦ (let old = get_or-set_other slots p q t vacant other in low q y (cc))
      ]

  -- no other port holds the new address
  pub store_apart : ((q : ℕ) → port_at slots q ≡ Holding x → ⊥) → ((q q' y : ℕ) → port_at slots q ≡ Holding y → port_at slots q' ≡ Holding y → q ≡ q') → (q q' y : ℕ) → port_at (set slots p t) q ≡ Holding y → port_at (set slots p t) q' ≡ Holding y → q ≡ q'
  store_apart idle apart q q' y e e' =
      elim (cases_eq q p) [
        | inl here ↦ elim (cases_eq q' p) [
          | inl there ↦ cc
          | inr other ↦
              (let new = get_or-set_same slots p t vacant room in
              let old = get_or-set_other slots p q' t vacant other in
              let same : x ≡ y = cc in
              absurd (idle q' (cc)))
        ]
        | inr other ↦ elim (cases_eq q' p) [
          | inl there ↦
              (let new = get_or-set_same slots p t vacant room in
              let old = get_or-set_other slots p q t vacant other in
              let same : x ≡ y = cc in
              absurd (idle q (cc)))
          | inr others ↦
              (let old = get_or-set_other slots p q t vacant other in
              let old' = get_or-set_other slots p q' t vacant others in
              apart q q' y (cc) (cc))
        ]
      ]
