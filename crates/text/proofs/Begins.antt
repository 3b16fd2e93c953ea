-- Lines at the front of a text, one after another.
use Rattle.std.proofs.Common.{◌≡◌, ℕ, ◌+◌, ◌<◌, List, ◌∷◌, ◌++◌, length, Some, Ok, Err, Result, sym, refl, ap, ◌∙◌, subst, inl, inr, arith, length-append}
use Rattle.std.specs.Borrow.{Bor}
use Rattle.std.specs.Str.Iter.{LacksByte}
use Rattle.text.specs.declared.faults.LineFault.{LineFault}
use Rattle.text.specs.declared.faults.LineFault.TheVariants.{Malformed, OutOfRange}
use Rattle.text.specs.declared.text_lines.TextLines.{TextLines}
use Rattle.text.specs.Texts.{Begins, LineComes, LineFails, LineTold}
use Rattle.text.proofs.Cuts.{same_cut, no_cut}

-- a rest begins with one line at most
pub begins_sole : {rest l l' : List ℕ} → Begins rest l → Begins rest l' → l ≡ l'
begins_sole {rest} {l} {l'} ((more, is), lacks) ((more', is'), lacks') = (same_cut 10 l l' more more' (sym is ∙ is') lacks lacks').0

-- a rest that begins with a line has an end of line
pub begins_ended : {rest : List ℕ} (l : List ℕ) → Begins rest l → LacksByte 10 rest → ⊥
begins_ended {rest} l ((more, is), lacks) free = no_cut 10 rest l more is free

-- a rest that begins with a line is not empty
pub begins_some : {rest : List ℕ} (l : List ℕ) → Begins rest l → 0 < length rest
begins_some {rest} l ((more, is), lacks) = omega (arith, ap length is ∙ length-append l (10 ∷ more))

-- a rest fails for one reason, where a line does
pub fails_sole : {X : Type 0} (Read : List ℕ → Result X LineFault → Type 0) → ((line : List ℕ) (f g : LineFault) → Read line (Err f) → Read line (Err g) → f ≡ g) → (rest : List ℕ) (f g : LineFault) → LineFails Read rest f → LineFails Read rest g → f ≡ g
fails_sole Read sole rest f g (inl (line, begins, refused)) (inl (line', begins', refused')) =
    sole line f g refused (subst (λ (l : List ℕ). Read l (Err g)) (begins_sole begins' begins) refused')
fails_sole Read sole rest f g (inl (line, begins, refused)) (inr (is, some, lacks)) = absurd (begins_ended line begins lacks)
fails_sole Read sole rest f g (inr (is, some, lacks)) (inl (line, begins, refused)) = absurd (begins_ended line begins lacks)
fails_sole Read sole rest f g (inr (is, some, lacks)) (inr (is', some', lacks')) = is ∙ sym is'

-- a line is refused for one reason, where form is judged before range
pub reason_sole : {X : Type 0} (Read : List ℕ → Result X LineFault → Type 0) (WellFormed : List ℕ → Type 0) → ((line : List ℕ) → Read line (Err Malformed) → WellFormed line → ⊥) → ((line : List ℕ) → Read line (Err OutOfRange) → WellFormed line) → (line : List ℕ) (f g : LineFault) → Read line (Err f) → Read line (Err g) → f ≡ g
reason_sole Read WellFormed bad well line Malformed Malformed h k = refl
reason_sole Read WellFormed bad well line Malformed OutOfRange h k = absurd (bad line h (well line k))
reason_sole Read WellFormed bad well line OutOfRange Malformed h k = absurd (bad line k (well line h))
reason_sole Read WellFormed bad well line OutOfRange OutOfRange h k = refl

-- a line that was read, as it stands in the text
pub record Taken {X : Type 0} (Read : List ℕ → Result X LineFault → Type 0) (s t : TextLines) (n : ℕ) (x : X) : Type 0 where
  pub bytes : List ℕ
  pub at : s.left.now ≡ bytes ++ (10 ∷ t.left.now)
  pub lacks : LacksByte 10 bytes
  pub read : Read bytes (Ok x)
  pub here : n ≡ s.number
  pub further : t.number ≡ s.number + 1

module _ {X F : Type 0} (Read : List ℕ → Result X LineFault → Type 0) (at : ℕ → LineFault → F) (s t : TextLines) (n : ℕ) where
  pub taken : (line : Result (Bor (List ℕ)) LineFault) (x : X) → LineComes s (Some (n, line)) t → LineTold Read at n line (Ok x) → Taken Read s t n x
  taken (Ok b) x e h = record { bytes = b.now; at = e.2; lacks = e.3; read = h; here = e.0; further = e.1 }
  taken (Err f) x e h = absurd h

  -- a line that is refused, with its number
  pub refused : (line : Result (Bor (List ℕ)) LineFault) (g : F) → LineComes s (Some (n, line)) t → LineTold Read at n line (Err g) → (f : LineFault) × (g ≡ at n f) × (n ≡ s.number) × LineFails Read s.left.now f
  refused (Ok b) g e h = (h.0, h.1, e.0, inl (b.now, ((t.left.now, e.2), e.3), h.2))
  refused (Err f) g e h = (f, h, e.0, inr (e.1, e.2, e.3))

-- such a line begins what was left
pub taken_begins : {X : Type 0} (Read : List ℕ → Result X LineFault → Type 0) {s t : TextLines} {n : ℕ} {x : X} (k : Taken Read s t n x) → Begins s.left.now k.bytes
taken_begins Read {s} {t} k = ((t.left.now, k.at), k.lacks)
