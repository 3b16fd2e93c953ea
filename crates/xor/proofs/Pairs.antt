-- What the halves share after a read or a write, said alike of both halves.
use Rattle.std.specs.Prelude.{◌≡◌, ℕ, ◌<◌, Some}
use Rattle.std.proofs.Common.{sym, ap, ◌∙◌, inl, inr, arith}
use Rattle.std.proofs.lemmas.Bool.{cases_eq}
use Rattle.memory.specs.Meaning.{Meaning, address}
use Rattle.memory.specs.Calls.{Idle, Marked, Stored}
use Rattle.joint.specs.declared.sizes.Joint.{Joint}
use Rattle.xor.specs.Xor.{Paired, busy, recovery}
use Rattle.xor.specs.Tidy.{Numbers}

-- the halves turned round
abbrev pub turned : Joint → Joint
turned j = record { first = j.second; second = j.first; own = j.own; void = j.void }

pub numbers_turned : {W : Type 0} (j : Joint) (a b : Meaning W) → Numbers j a b → Numbers (turned j) b a
numbers_turned j a b n = record {
  first_reads = n.second_reads;
  first_writes = n.second_writes;
  first_depth = n.second_depth;
  first_lends = n.second_lends;
  second_reads = n.first_reads;
  second_writes = n.first_writes;
  second_depth = n.first_depth;
  second_lends = n.first_lends;
  writes = omega arith;
}

pub paired_turned : {W : Type 0} (j : Joint) (a b : Meaning W) → Paired j a b → Paired (turned j) b a
paired_turned j a b h = record {
  used = λ q hq. sym (h.used q hq);
  first = h.second;
  second = h.first;
  apart = λ w w' x hw hw' e e'. h.apart w' w x hw' hw e' e;
}

-- a read through one port of both halves
pub paired_read : {W : Type 0} (j : Joint) (a b a' b' : Meaning W) (p : ℕ) → Numbers j a b → Paired j a b → p < j.own.reads → Marked a a' p → Marked b b' p → Paired j a' b'
paired_read j a b a' b' p n h hp s t = record {
  used = λ q hq. elim (cases_eq q p) [
    | inl e ↦ ap b'.used e ∙ t.here ∙ sym (ap a'.used e ∙ s.here)
    | inr other ↦ t.used q (omega arith) other ∙ h.used q hq ∙ sym (s.used q (omega arith) other)
  ];
  first = λ w hw. t.used (recovery j.first j.second w) (omega arith) (λ e. omega arith) ∙ h.first w hw ∙ ap busy (sym (s.ports w (omega arith)));
  second = λ w hw. s.used (recovery j.second j.first w) (omega arith) (λ e. omega arith) ∙ h.second w hw ∙ ap busy (sym (t.ports w (omega arith)));
  apart = λ w w' x hw hw' e e'. h.apart w w' x hw hw' (ap address (sym (s.ports w (omega arith))) ∙ e) (ap address (sym (t.ports w' (omega arith))) ∙ e');
}

-- a write through a port of A, with the read of its recovery port
pub paired_put : {W : Type 0} (j : Joint) (a b a' b' : Meaning W) (p c x : ℕ) (u : W) → Numbers j a b → Paired j a b → p < j.first.writes → c ≡ recovery j.first j.second p → Idle b x → Stored a a' p x u → Marked b b' c → Paired j a' b'
paired_put j a b a' b' p c x u n h hp hc idle s t = record {
  used = λ q hq. t.used q (omega arith) (λ e. omega arith) ∙ h.used q hq ∙ sym (s.used q (omega arith));
  first = λ w hw. elim (cases_eq w p) [
    | inl e ↦ (let d : recovery j.first j.second w ≡ c = omega arith in ap b'.used d ∙ t.here ∙ sym (ap (λ (i : ℕ). busy (a'.port i)) e ∙ ap busy s.here))
    | inr other ↦ t.used (recovery j.first j.second w) (omega arith) (λ e. other (omega arith)) ∙ h.first w hw ∙ ap busy (sym (s.ports w (omega arith) other))
  ];
  second = λ w hw. s.used (recovery j.second j.first w) (omega arith) ∙ h.second w hw ∙ ap busy (sym (t.ports w (omega arith)));
  apart = λ w w' y hw hw' e e'. let e'' = ap address (sym (t.ports w' (omega arith))) ∙ e' in elim (cases_eq w p) [
    | inl same ↦ (let z : Some x ≡ Some y = ap address (sym s.here) ∙ ap (λ (i : ℕ). address (a'.port i)) (sym same) ∙ e in idle w' (omega arith) (e'' ∙ sym z))
    | inr other ↦ h.apart w w' y hw hw' (ap address (sym (s.ports w (omega arith) other)) ∙ e) e''
  ];
}
