-- What is known of a sealed plan, put to use. Only that there is a proof of it is known, which suffices for facts that can be decided.
use Rattle.std.proofs.Common.{◌≡◌, ℕ, ◌-◌, List, [], ◌∷◌, length, Some, Ok, Err, Result, refl, ap, subst, ⊎_elim, arith}
use mathlib.Core.HLevel.{⊥_prop}
use mathlib.Core.Logic.{∥∥₁_elim}
use Rattle.std.proofs.lemmas.Bool.{cases_eq}
use Rattle.node.specs.declared.faults.NodeFault.{NodeFault}
use Rattle.node.specs.declared.node.Node.{Node}
use Rattle.node.specs.declared.shape.Shape.{Shape}
use Rattle.node.specs.declared.verdict.Top.{Top}
use Rattle.node.specs.Plans as plans
use Rattle.node.proofs.Sole.{plans_sole}
use Rattle.node_line.specs.Lines.{letter_byte}
use Rattle.node_line.proofs.Rows.{same_letter}
use Rattle.page.specs.declared.cursor.Cursor.{Cursor}
use Rattle.page.specs.Cursors.{Lays}
use Rattle.page.proofs.Cursors.{lays}
use Rattle.seal.specs.Sound.{Sound}
use Rattle.wires.specs.declared.wire.Part.{Part}
use Rattle.wires.specs.Lines.{top_line}
use Rattle.wiring.specs.Netlists.{Wired, NetlistText}
use Rattle.wiring.specs.Parts.{Parts, none, then, Continues, Lined, shapes}
use Rattle.wiring.proofs.Continuing.{ends}
use Rattle.wiring.proofs.Stacking.{parts_plans}

-- numbers that cannot differ are equal
number_stable : (m n : ℕ) → ((m ≡ n → ⊥) → ⊥) → m ≡ n
number_stable m n h = ⊎_elim (λ same. same) (λ other. absurd (h other)) (cases_eq m n)

-- shapes that cannot differ are equal
shape_stable : (s s' : Shape) → ((s ≡ s' → ⊥) → ⊥) → s ≡ s'
shape_stable s s' h =
    let letter = same_letter s.letter s'.letter (number_stable (letter_byte s.letter) (letter_byte s'.letter) (λ other. h (λ e. other (ap (λ (x : Shape). letter_byte x.letter) e)))) in
    let reads = number_stable s.reads s'.reads (λ other. h (λ e. other (ap (λ (x : Shape). x.reads) e))) in
    let writes = number_stable s.writes s'.writes (λ other. h (λ e. other (ap (λ (x : Shape). x.writes) e))) in
    let depth = number_stable s.depth s'.depth (λ other. h (λ e. other (ap (λ (x : Shape). x.depth) e))) in
    λ i. record { letter = letter i; reads = reads i; writes = writes i; depth = depth i }

-- a sealed plan's macros are counted
pub sound_macros : (ns : List Node) (t : Top) → ∥ Sound ns (Some t) ∥₁ → t.macros ≡ plans.macro_count ns
sound_macros ns t h = number_stable t.macros (plans.macro_count ns) (λ other. ∥∥₁_elim h ⊥_prop (λ s. other s.1))

-- and it is a plan
sound_plan : (ns : List Node) (t : Top) → ∥ Sound ns (Some t) ∥₁ → (plans.Plan ns t.shape → ⊥) → ⊥
sound_plan ns t h no_plan = ∥∥₁_elim h ⊥_prop (λ s. no_plan s.0.1)

-- memories that are one memory
one_part : {ns : List Node} {ls : List (List ℕ)} (ps : List Part) (s : Shape) → ((shapes ps ≡ s ∷ [] → ⊥) → ⊥) → Parts ns ps ls → Wired 0 ns s ls
one_part [] s h parts = absurd (h (λ e. let clash : ◌≡◌ {A = ℕ} 0 1 = cc in omega arith))
one_part {ns} {ls} (p ∷ []) s h (then none wired) =
    subst (λ (x : Shape). Wired 0 ns x ls) (shape_stable p.shape s (λ other. h (λ e. other (cc)))) wired
one_part (p ∷ (q ∷ ps)) s h parts = absurd (h (λ e. let clash : ◌≡◌ {A = ℕ} 0 1 = cc in omega arith))

-- the lines of a sealed plan's memories are those of the whole
sound_wired : (ns : List Node) (t : Top) {ps : List Part} {ls : List (List ℕ)} → ∥ Sound ns (Some t) ∥₁ → Parts ns ps ls → Wired 0 ns t.shape ls
sound_wired ns t {ps} h parts =
    one_part ps t.shape (λ other. sound_plan ns t h (λ plan. other (plans_sole (parts_plans parts) (plans.then plans.none plan)))) parts

-- the whole text is laid
pub text_laid : (ns : List Node) (t : Top) (r : Result Unit NodeFault) (start last end : Cursor) → ∥ Sound ns (Some t) ∥₁ → Lined ns start last r → Continues last (top_line (length ns - 1) t.macros ∷ []) end → Lays start (NetlistText ns t) end
text_laid ns t (Ok _) start last end h (ps, ls, parts, lines) ending = lays (ls, sound_wired ns t h parts, refl) (ends ls (length ns - 1) t.macros lines ending)
text_laid ns t (Err f) start last end h no_plan ending = absurd (sound_plan ns t h (no_plan t.shape))
