-- One write after another.
use Rattle.std.proofs.Common.{◌≡◌, ℕ, List, ◌++◌, length, take, drop, sym, ap, ◌∙◌, append_assoc, arith, length-append, length-drop}
use Rattle.std.proofs.lemmas.List.{length-take-le}
use Rattle.text.specs.Lines.{Put}

module _ {old mid : List ℕ} {at : ℕ} {bs : List ℕ} {m : ℕ} (p : Put old mid at bs m) where
  front : List ℕ
  front = take at old ++ bs

  front_length : length front ≡ m
  unfolding front
  front_length = omega (arith, length-append (take at old) bs, length-take-le at old (omega arith), p.ends)

  mid_is : mid ≡ front ++ drop m old
  unfolding front
  mid_is = p.is ∙ sym (append_assoc (take at old) bs (drop m old))

  pub put_length : length mid ≡ length old
  put_length = ap length mid_is ∙ omega (arith, length-append front (drop m old), front_length, length-drop m old, p.room)
