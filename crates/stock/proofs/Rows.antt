-- The fields of an entry's line are found in one way.
use Rattle.std.proofs.Common.{◌≡◌, ℕ, List, ◌∷◌, ◌++◌, codes, decimal, sym, refl, ap, ◌∙◌, subst, arith}
use Rattle.text.proofs.Cuts.{number_off}
use Rattle.text.proofs.Numerals.{canonical_decimal, written, valued}
use Rattle.stock.specs.declared.line.Entry.{Entry}
use Rattle.stock.specs.declared.line.Fields.{Fields}
use Rattle.stock.specs.Lines.{WellFormed, InRange, EntryLine, Says, row, entry_line, entry_of}

-- the word and its TAB are taken off a well-formed line in one way
pub word_off : {line : List ℕ} (rest : List ℕ) → line ≡ codes "stock\t" ++ rest → (v : WellFormed line) → rest ≡ v.kind ++ (9 ∷ v.count)
word_off rest e v = cc

-- the fields of a line are those of any other way to read it
pub same_row : {line : List ℕ} (v w : WellFormed line) → (v.kind ≡ w.kind) × (v.count ≡ w.count)
same_row v w =
    number_off refl v.kind_ok (word_off (v.kind ++ (9 ∷ v.count)) v.is w) w.kind_ok

-- the line of an entry in range is well formed
abbrev pub entry_formed : {line : List ℕ} (e : Entry) → InRange e → line ≡ entry_line e → WellFormed line
entry_formed e h is = record {
  kind = decimal e.kind;
  count = decimal e.count;
  is = is;
  kind_ok = canonical_decimal _ (omega arith);
  count_ok = canonical_decimal _ (omega arith);
}

-- what the line of an entry in range says
says_entry : {line : List ℕ} {w : Fields} (e : Entry) → InRange e → Says line w → line ≡ entry_line e → entry_of w ≡ e
says_entry e h s is =
    let p = same_row s.fields (entry_formed e h is) in
    let a = valued e.kind s.kind p.0 (omega arith) in
    let b = valued e.count s.count p.1 (omega arith) in
    λ i. record { kind = a i; count = b i }

-- a line that says numbers out of range is the line of no entry in range
pub not_entry : {line : List ℕ} {w : Fields} → Says line w → (InRange (entry_of w) → ⊥) → EntryLine line → ⊥
not_entry s out (e, h, is) = out (subst InRange (sym (says_entry e h s is)) h)

-- a line is that of the entry that it says, where the numbers are in range
pub says_line : {line : List ℕ} {w : Fields} {e : Entry} → Says line w → e ≡ entry_of w → InRange e → line ≡ entry_line e
says_line {line} {w} {e} s is h =
    let r = s.fields in
    let k = subst InRange is h in
    let a = written r.kind_ok s.kind (omega (arith, k.kind_high)) in
    let b = written r.count_ok s.count (omega (arith, k.count_high)) in
    r.is ∙ (λ i. row (a i) (b i)) ∙ ap entry_line (sym is)
