-- Lines are appended one after another.
use Rattle.std.proofs.Common.{◌≡◌, ℕ, ◌+◌, List, [], ◌∷◌, ◌++◌, map, sym, ap, ◌∙◌, subst, append-nil, add-one}
use Rattle.std.specs.List.{flat_map}
use Rattle.std.proofs.lemmas.Grind.{flat_map-append}
use Rattle.std.proofs.lemmas.List.{flat_map_more, map-append}
use Rattle.page.specs.declared.cursor.Cursor.{Cursor}
use Rattle.page.specs.Cursors.{Appends, Grows}
use Rattle.page.proofs.Cursors.{grows_none, grows_by, grows_then, grows_is}
use Rattle.wires.specs.declared.wire.Joint.{Joint}
use Rattle.wires.specs.declared.wire.Wire.{Wire}
use Rattle.wires.specs.Lines.{layer_line, wire_line, top_line}
use Rattle.wires.specs.Ports.{joint_reads, joint_writes}
use Rattle.wires.specs.Wires.{upto}
use Rattle.wiring.specs.Netlists.{lines_text, netlist_text}
use Rattle.wiring.specs.Parts.{Continues, joint_lines}

-- no lines
pub continues_none : {c : Cursor} → Continues c [] c
continues_none = record { grows = grows_none }

-- one line
pub continues_line : (old new : Cursor) {bs : List ℕ} (l : List ℕ) → Appends old bs new → bs ≡ l ++ (10 ∷ []) → Continues old (l ∷ []) new
continues_line old new l put is = record { grows = grows_by old new (is ∙ sym (append-nil (l ++ (10 ∷ [])))) put }

-- some lines and more
pub continues_then : {old mid new : Cursor} {ls ms : List (List ℕ)} → Continues old ls mid → Continues mid ms new → Continues old (ls ++ ms) new
continues_then {ls = ls} {ms = ms} first second = record { grows = grows_is (sym (flat_map-append (λ l. l ++ (10 ∷ [])) ls ms)) (grows_then first.grows second.grows) }

-- the same lines in other words
pub continues_is : {old new : Cursor} {ls ms : List (List ℕ)} → ls ≡ ms → Continues old ls new → Continues old ms new
continues_is {old} {new} e c = subst (λ (ls : List (List ℕ)). Continues old ls new) e c

-- the lines of the wires of one port more
pub ports_more : (f : ℕ → List Wire) (k : ℕ) {ws : List Wire} → ws ≡ f k → map wire_line (flat_map f (upto k)) ++ map wire_line ws ≡ map wire_line (flat_map f (upto (k + 1)))
ports_more f k {ws} is =
    sym (map-append wire_line (flat_map f (upto k)) ws)
    ∙ ap (map wire_line) (ap (λ (xs : List Wire). flat_map f (upto k) ++ xs) is ∙ flat_map_more f [] (upto k) k)
    ∙ ap (λ n. map wire_line (flat_map f (upto n))) (sym (add-one k))

-- the lines of a layer, part by part
pub layer_parts : (j : Joint) → ((layer_line j.layer j.own.root j.a.root j.b.root j.own.shape ∷ []) ++ map wire_line (flat_map (joint_reads j) (upto j.own.shape.reads))) ++ map wire_line (flat_map (joint_writes j) (upto j.own.shape.writes)) ≡ joint_lines j
layer_parts j =
    ap (λ ls. layer_line j.layer j.own.root j.a.root j.b.root j.own.shape ∷ ls)
    (sym (map-append wire_line (flat_map (joint_reads j) (upto j.own.shape.reads)) (flat_map (joint_writes j) (upto j.own.shape.writes))))

-- the last line
pub ends : {old mid new : Cursor} (ls : List (List ℕ)) (last macros : ℕ) → Continues old ls mid → Continues mid (top_line last macros ∷ []) new → Grows old (netlist_text ls last macros) new
ends ls last macros lines ending =
    grows_is (ap (λ t. lines_text ls ++ t) (append-nil (top_line last macros ++ (10 ∷ [])))) (grows_then lines.grows ending.grows)
