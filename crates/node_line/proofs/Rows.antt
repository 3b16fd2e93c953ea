-- The fields of a macro's line are found in one way.
use Rattle.std.proofs.Common.{◌≡◌, ℕ, List, ◌∷◌, ◌++◌, codes, decimal, sym, refl, ap, ◌∙◌, subst, arith}
use Rattle.std.specs.Str.Iter.{LacksByte}
use Rattle.word.specs.declared.Letter.{Letter}
use Rattle.word.specs.declared.Letter.TheVariants.{H, B, S, O}
use Rattle.text.proofs.Cuts.{Free, free_by_test, no_cut, number_off, lacks_by_test}
use Rattle.text.proofs.Numerals.{canonical_decimal, written, valued}
use Rattle.node.specs.declared.node.Layer.{Layer}
use Rattle.node.specs.declared.node.Layer.TheVariants.{Replicate, Lvt, Xor, Depth, Width}
use Rattle.node.specs.declared.node.Macro.{Macro}
use Rattle.node.specs.declared.node.Node.TheVariants as node
use Rattle.node.specs.Nodes.{InRange}
use Rattle.node_line.specs.declared.Fields.{Fields}
use Rattle.node_line.specs.Lines.{Row, NodeLine, row, line_of, letter_byte, layer_name}
use Rattle.node_line.specs.Reading.{Says, macro_of}

-- a letter and a TAB are taken off in one way
pub letter_off : {bs r t : List ℕ} {a b : ℕ} → bs ≡ a ∷ 9 ∷ r → bs ≡ b ∷ 9 ∷ t → (a ≡ b) × (r ≡ t)
letter_off p q = ((cc), (cc))

-- letters with one byte are one letter
pub same_letter : (x y : Letter) → letter_byte x ≡ letter_byte y → x ≡ y
same_letter H H e = refl
same_letter H B e = absurd (omega arith)
same_letter H S e = absurd (omega arith)
same_letter H O e = absurd (omega arith)
same_letter B H e = absurd (omega arith)
same_letter B B e = refl
same_letter B S e = absurd (omega arith)
same_letter B O e = absurd (omega arith)
same_letter S H e = absurd (omega arith)
same_letter S B e = absurd (omega arith)
same_letter S S e = refl
same_letter S O e = absurd (omega arith)
same_letter O H e = absurd (omega arith)
same_letter O B e = absurd (omega arith)
same_letter O S e = absurd (omega arith)
same_letter O O e = refl

-- no letter is an end of line
pub letter_free : (x : Letter) → letter_byte x ≡ 10 → ⊥
letter_free H e = omega arith
letter_free B e = omega arith
letter_free S e = omega arith
letter_free O e = omega arith

-- nor does a layer's name hold one
pub name_free : (x : Layer) → Free 10 (layer_name x)
name_free Replicate = free_by_test 10 (codes "replicate") refl
name_free Lvt = free_by_test 10 (codes "lvt") refl
name_free Xor = free_by_test 10 (codes "xor") refl
name_free Depth = free_by_test 10 (codes "depth") refl
name_free Width = free_by_test 10 (codes "width") refl

-- fields that are taken off one after another
pub row_joins : {bs r₁ r₂ r₃ : List ℕ} (f₁ : List ℕ) (x : Letter) (f₂ f₃ r₄ : List ℕ) → bs ≡ f₁ ++ (9 ∷ r₁) → r₁ ≡ letter_byte x ∷ 9 ∷ r₂ → r₂ ≡ f₂ ++ (9 ∷ r₃) → r₃ ≡ f₃ ++ (9 ∷ r₄) → bs ≡ row f₁ x f₂ f₃ r₄
row_joins f₁ x f₂ f₃ r₄ a b c d = cc

-- the fields of a row are those of any other way to read it
pub same_row : {bs : List ℕ} (v w : Row bs) → (v.kind ≡ w.kind) × (v.letter ≡ w.letter) × (v.reads ≡ w.reads) × (v.writes ≡ w.writes) × (v.depth ≡ w.depth)
same_row v w =
    let a = number_off v.is v.kind_ok w.is w.kind_ok in
    let b = letter_off refl a.1 in
    let c = number_off refl v.reads_ok b.1 w.reads_ok in
    let d = number_off refl v.writes_ok c.1 w.writes_ok in
    (a.0, same_letter _ _ b.0, c.0, d.0, d.1)

-- the row of a macro in range
abbrev pub macro_row : {bs : List ℕ} (m : Macro) → InRange m → bs ≡ row (decimal m.kind) m.letter (decimal m.reads) (decimal m.writes) (decimal m.depth) → Row bs
macro_row m h e = record {
  kind = decimal m.kind;
  letter = m.letter;
  reads = decimal m.reads;
  writes = decimal m.writes;
  depth = decimal m.depth;
  is = e;
  kind_ok = canonical_decimal _ (omega arith);
  reads_ok = canonical_decimal _ (omega arith);
  writes_ok = canonical_decimal _ (omega arith);
  depth_ok = canonical_decimal _ (omega arith);
}

-- what the row of a macro in range says
pub says_macro : {bs : List ℕ} {w : Fields} (m : Macro) → InRange m → Says bs w → bs ≡ row (decimal m.kind) m.letter (decimal m.reads) (decimal m.writes) (decimal m.depth) → macro_of w ≡ m
says_macro {bs} {w} m h s e =
    let p = same_row s.fields (macro_row m h e) in
    let a = valued m.kind s.kind p.0 (omega arith) in
    let b : w.letter ≡ m.letter = s.letter ∙ p.1 in
    let c = valued m.reads s.reads p.2 (omega arith) in
    let d = valued m.writes s.writes p.3 (omega arith) in
    let f = valued m.depth s.depth p.4 (omega arith) in
    λ i. record { kind = a i; letter = b i; reads = c i; writes = d i; depth = f i }

-- a row of numbers in range is the row of their macro
pub row_written : {bs : List ℕ} {w : Fields} → Says bs w → InRange (macro_of w) → bs ≡ row (decimal w.kind) w.letter (decimal w.reads) (decimal w.writes) (decimal w.depth)
row_written {bs} {w} s h =
    let r = s.fields in
    let a = written r.kind_ok s.kind (omega (arith, h.kind_high)) in
    let c = written r.reads_ok s.reads (omega (arith, h.reads_high)) in
    let d = written r.writes_ok s.writes (omega (arith, h.writes_high)) in
    let f = written r.depth_ok s.depth (omega (arith, h.depth_high)) in
    r.is ∙ (λ i. row (a i) (sym s.letter i) (c i) (d i) (f i))

-- a word is not cut
pub layer_no_tab : (x : Layer) → LacksByte 9 (layer_name x)
layer_no_tab Replicate = lacks_by_test 9 (codes "replicate") refl
layer_no_tab Lvt = lacks_by_test 9 (codes "lvt") refl
layer_no_tab Xor = lacks_by_test 9 (codes "xor") refl
layer_no_tab Depth = lacks_by_test 9 (codes "depth") refl
layer_no_tab Width = lacks_by_test 9 (codes "width") refl

-- a line with a TAB is no layer's
pub not_layer : {l : List ℕ} (f rest : List ℕ) (x : Layer) → l ≡ f ++ (9 ∷ rest) → l ≡ layer_name x → ⊥
not_layer f rest x e is = no_cut 9 (layer_name x) f rest (sym is ∙ e) (layer_no_tab x)

-- a macro's line that says numbers out of range is the line of no node in range
pub not_node : {l rest : List ℕ} {w : Fields} → l ≡ codes "macro" ++ (9 ∷ rest) → Says rest w → (InRange (macro_of w) → ⊥) → NodeLine l → ⊥
not_node e s out (node.Macro m, h, is) = out (subst InRange (sym (says_macro m h s (cc (sym e ∙ is)))) h)
not_node {l} {rest} e s out (node.Layer x, h, is) = not_layer (codes "macro") rest x e is

-- the line of the macro that it says
pub node_line : {l rest : List ℕ} {w : Fields} {m : Macro} → l ≡ codes "macro" ++ (9 ∷ rest) → Says rest w → m ≡ macro_of w → InRange m → l ≡ line_of (node.Macro m)
node_line {l} {rest} {w} {m} e s is h =
    e ∙ ap (λ t. codes "macro" ++ (9 ∷ t)) (row_written s (subst InRange is h)) ∙ ap (λ k. line_of (node.Macro k)) (sym is)
