-- A call that no rule refuses is accepted.
use Rattle.std.proofs.Common.{◌≡◌, ℕ, Ok, Err, ap, arith}
use Rattle.memory.specs.declared.refusal.Refusal.{Refusal}
use Rattle.memory.specs.declared.refusal.Refusal.TheVariants.{NoPort, NoAddress, Busy, Held}
use Rattle.memory.specs.Meaning.{Meaning, address}
use Rattle.memory.specs.Calls.{MayRead, MayWrite}

pub not_both_reads : {W : Type 0} (m : Meaning W) (p x : ℕ) (e : Refusal) → MayRead m p x (Ok tt) → MayRead m p x (Err e) → ⊥
not_both_reads m p x NoPort h k = omega arith
not_both_reads m p x NoAddress h k = omega arith
not_both_reads m p x Busy h k = let z : ◌≡◌ {A = ℕ} 0 1 = cc in omega arith
not_both_reads m p x Held h k = k

pub not_both_writes : {W : Type 0} (m : Meaning W) (p x : ℕ) (e : Refusal) → MayWrite m p x (Ok tt) → MayWrite m p x (Err e) → ⊥
not_both_writes m p x NoPort h k = omega arith
not_both_writes m p x NoAddress h k = omega arith
not_both_writes m p x Busy h k = let f = ap address h.2 in let z : ◌≡◌ {A = ℕ} 0 1 = cc in omega arith
not_both_writes m p x Held h k = h.3 k.3.0 k.3.1 k.3.2
