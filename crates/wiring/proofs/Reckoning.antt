-- The lines of a plan have as many macros' lines as it has macros.
use Rattle.std.proofs.Common.{◌≡◌, ℕ, ◌+◌, ◌-◌, cond, List, [], ◌∷◌, ◌++◌, map, length, take, Some, None, Ok, Err, codes, decimal, Option, Result, sym, refl, ap, ◌∙◌, append_assoc, add_assoc, zero-add, arith}
use Rattle.std.specs.List.{AllByRecursion}
use Rattle.std.proofs.lemmas.Grind.{flat_map-append}
use Rattle.std.proofs.lemmas.List.{take_at}
use Rattle.std.proofs.lemmas.Bool.{ne_eqb}
use Rattle.text.specs.Fields.{tabbed}
use Rattle.text.proofs.Cuts.{Free, free_by_test, free_decimal, free_then}
use Rattle.node.specs.declared.node.Layer.{Layer}
use Rattle.node.specs.declared.node.Layer.TheVariants.{Replicate, Lvt, Xor, Depth, Width}
use Rattle.node.specs.declared.node.Macro.{Macro}
use Rattle.node.specs.declared.node.Node.{Node}
use Rattle.node.specs.declared.node.Node.TheVariants.{Layer as layer_node}
use Rattle.node.specs.declared.shape.Shape.{Shape}
use Rattle.node.specs.declared.verdict.Top.{Top}
use Rattle.node.specs.Nodes.{over, is_macro}
use Rattle.node.specs.Plans.{macro_count}
use Rattle.node_line.specs.Lines.{layer_name}
use Rattle.node_line.proofs.Rows.{letter_free, name_free}
use Rattle.seal.specs.Sound.{Sound}
use Rattle.wires.specs.declared.wire.Mark.{Mark}
use Rattle.wires.specs.declared.wire.Mark.TheVariants.{Read, Write, Recovery}
use Rattle.wires.specs.declared.wire.Wire.{Wire}
use Rattle.wires.specs.Lines.{macro_line, layer_line, wire_line, top_line, mark_byte}
use Rattle.wires.specs.Wires.{wires_of}
use Rattle.page.specs.declared.faults.RoomFault.{RoomFault}
use Rattle.page.specs.declared.faults.RoomFault.TheVariants.{NoRoom}
use Rattle.wiring.specs.Counting.{macro_here, macros_later, macro_lines, MacrosCounted}
use Rattle.wiring.specs.Netlists.{Wired, single, layered, layer_lines, lines_text, netlist_text, NetlistWritten}
use Rattle.wiring.proofs.Sounding.{sound_macros}

-- no mark is an end of line
mark_free : (k : Mark) → mark_byte k ≡ 10 → ⊥
mark_free Read e = omega arith
mark_free Write e = omega arith
mark_free Recovery e = omega arith

-- three numbers
numbers_free : (a b d : ℕ) → Free 10 (decimal a ++ (9 ∷ (decimal b ++ (9 ∷ decimal d))))
numbers_free a b d = free_then (decimal a) _ (free_decimal a) (free_then (decimal b) (decimal d) (free_decimal b) (free_decimal d))

macro_free : (n : ℕ) (m : Macro) → Free 10 (macro_line n m)
macro_free n m =
    free_then (codes "macro") _ (free_by_test 10 (codes "macro") refl)
    (free_then (decimal n) _ (free_decimal n)
    (free_then (decimal m.kind) _ (free_decimal m.kind) (letter_free m.letter, ((λ e. omega arith), numbers_free m.reads m.writes m.depth))))

-- a line that is no macro's
pub record Other (l : List ℕ) : Type 0 where
  pub free : Free 10 l
  pub unlike : (rest : List ℕ) → macro_here (l ++ rest) ≡ 0

layer_unlike : (l : Layer) (rest : List ℕ) → macro_here (layer_name l ++ rest) ≡ 0
layer_unlike Replicate rest = refl
layer_unlike Lvt rest = refl
layer_unlike Xor rest = refl
layer_unlike Depth rest = refl
layer_unlike Width rest = refl

layer_other : (l : Layer) (n a b : ℕ) (s : Shape) → Other (layer_line l n a b s)
layer_other l n a b s =
    let fields = free_then (decimal n) _ (free_decimal n) (free_then (decimal a) _ (free_decimal a) (free_then (decimal b) _ (free_decimal b) (numbers_free s.reads s.writes s.depth))) in
    record {
      free = free_then (layer_name l) _ (name_free l) fields;
      unlike = λ rest. ap macro_here (append_assoc (layer_name l) _ rest) ∙ layer_unlike l _;
    }

mark_unlike : (k : Mark) (rest : List ℕ) → macro_here (mark_byte k ∷ rest) ≡ 0
mark_unlike Read rest = refl
mark_unlike Write rest = refl
mark_unlike Recovery rest = refl

wire_other : (w : Wire) → Other (wire_line w)
wire_other w = record {
  free = (mark_free w.mark, ((λ e. omega arith), free_then (decimal w.node) _ (free_decimal w.node) (numbers_free w.port w.half w.inner)));
  unlike = λ rest. mark_unlike w.mark (9 ∷ (tabbed (decimal w.node ∷ decimal w.port ∷ decimal w.half ∷ decimal w.inner ∷ []) ++ rest));
}

top_other : (last macros : ℕ) → Other (top_line last macros)
top_other last macros = record {
  free = free_then (codes "top") _ (free_by_test 10 (codes "top") refl) (free_then (decimal last) (decimal macros) (free_decimal last) (free_decimal macros));
  unlike = λ rest. refl;
}

-- all wires are such lines
wires_other : (ws : List Wire) → AllByRecursion Other (map wire_line ws)
wires_other [] = tt
wires_other (w ∷ ws) = (wire_other w, wires_other ws)

-- after a line the next one begins
later_line : (l rest : List ℕ) → Free 10 l → macros_later (l ++ (10 ∷ rest)) ≡ macro_lines rest
later_line [] rest h = refl
later_line (b ∷ l) rest h =
    ap (λ t. cond t (macro_here (l ++ (10 ∷ rest))) 0 + macros_later (l ++ (10 ∷ rest))) (ne_eqb b 10 h.0)
    ∙ zero-add (macros_later (l ++ (10 ∷ rest)))
    ∙ later_line l rest h.1

-- a line, and the lines after it
line_counted : (l rest : List ℕ) → Free 10 l → macro_lines (l ++ (10 ∷ rest)) ≡ macro_here (l ++ (10 ∷ rest)) + macro_lines rest
line_counted l rest h = ap (λ k. macro_here (l ++ (10 ∷ rest)) + k) (later_line l rest h)

-- a line with its end, and what follows
line_rest : (l more rest : List ℕ) → ((l ++ (10 ∷ [])) ++ more) ++ rest ≡ l ++ (10 ∷ (more ++ rest))
line_rest l more rest = simp append_assoc

-- lines that are no macros' do not count
others_counted : (ls : List (List ℕ)) (rest : List ℕ) → AllByRecursion Other ls → macro_lines (lines_text ls ++ rest) ≡ macro_lines rest
others_counted [] rest h = refl
others_counted (l ∷ ls) rest h =
    ap macro_lines (line_rest l (lines_text ls) rest)
    ∙ line_counted l (lines_text ls ++ rest) h.0.free
    ∙ ap (λ k. k + macro_lines (lines_text ls ++ rest)) (h.0.unlike (10 ∷ (lines_text ls ++ rest)))
    ∙ zero-add (macro_lines (lines_text ls ++ rest))
    ∙ others_counted ls rest h.1

-- the macros of some nodes and more
count_append : (ns ms : List Node) → macro_count (ns ++ ms) ≡ macro_count ns + macro_count ms
count_append [] ms = sym (zero-add (macro_count ms))
count_append (n ∷ ns) ms = ap (λ k. cond (is_macro n) 1 0 + k) (count_append ns ms) ∙ sym (add_assoc (cond (is_macro n) 1 0) (macro_count ns) (macro_count ms))

-- the lines of two halves and their layer
halves_rest : (ls ms own : List (List ℕ)) (rest : List ℕ) → lines_text (ls ++ (ms ++ own)) ++ rest ≡ lines_text ls ++ (lines_text ms ++ (lines_text own ++ rest))
halves_rest ls ms own rest =
    ap (λ t. t ++ rest) (flat_map-append (λ l. l ++ (10 ∷ [])) ls (ms ++ own) ∙ ap (λ t. lines_text ls ++ t) (flat_map-append (λ l. l ++ (10 ∷ [])) ms own))
    ∙ append_assoc (lines_text ls) (lines_text ms ++ lines_text own) rest
    ∙ ap (λ t. lines_text ls ++ t) (append_assoc (lines_text ms) (lines_text own) rest)

-- a plan's lines have as many macros' lines as the plan has macros
wired_counted : {start : ℕ} {ns : List Node} {s : Shape} {ls : List (List ℕ)} (rest : List ℕ) → Wired start ns s ls → macro_lines (lines_text ls ++ rest) ≡ macro_count ns + macro_lines rest
wired_counted {start} rest (single {m = m} ranged) = ap macro_lines (line_rest (macro_line start m) [] rest) ∙ line_counted (macro_line start m) rest (macro_free start m)
wired_counted {start} rest (layered l {p} {q} {a} {b} {ls} {ms} first second fit) =
    let n = start + length p + length q in
    let own = layer_lines l n (start + length p - 1) (n - 1) a b in
    let others : AllByRecursion Other own = (layer_other l n (start + length p - 1) (n - 1) (over l a b), wires_other (wires_of l n (start + length p - 1) (n - 1) a b)) in
    let counted = wired_counted (lines_text ms ++ (lines_text own ++ rest)) first in
    let counted' = wired_counted (lines_text own ++ rest) second in
    let counts = count_append p (q ++ (layer_node l ∷ [])) in
    let counts' = count_append q (layer_node l ∷ []) in
    ap macro_lines (halves_rest ls ms own rest) ∙ omega (arith, counted, counted', others_counted own rest others, counts, counts')

-- and so has the whole netlist
netlist_counted : {ns : List Node} {s : Shape} {ls : List (List ℕ)} (last macros : ℕ) → Wired 0 ns s ls → macro_lines (netlist_text ls last macros) ≡ macro_count ns
netlist_counted last macros wired =
    wired_counted (top_line last macros ++ (10 ∷ [])) wired
    ∙ omega (arith, line_counted (top_line last macros) [] (top_other last macros).free, (top_other last macros).unlike (10 ∷ []))

-- the text that is written, too
pub macros_counted : (ns : List Node) (top : Option Top) (old new : List ℕ) (r : Result ℕ RoomFault) → ∥ Sound ns top ∥₁ → NetlistWritten ns top old new r → MacrosCounted top new r
macros_counted ns (Some t) old new (Ok n) h (ls, wired, whole, room, is) =
    let last = length ns - 1 in
    ap (λ (bs : List ℕ). macro_lines (take n bs)) is
    ∙ ap macro_lines (take_at (netlist_text ls last t.macros) _ n (sym whole))
    ∙ netlist_counted last t.macros wired
    ∙ sym (sound_macros ns t h)
macros_counted ns (Some t) old new (Err NoRoom) h written = tt
macros_counted ns None old new (Ok n) h (nought, same) = ap (λ (k : ℕ). macro_lines (take k new)) nought
macros_counted ns None old new (Err NoRoom) h written = tt
