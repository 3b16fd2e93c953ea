-- The sealed plan of a memory is the memory's own.
use Rattle.std.proofs.Common.{◌≡◌, ℕ, ◌<◌, List, [], ◌∷◌, ◌++◌, length, Some, None, Ok, Err, Option, Result, sym, refl, ap, ◌∙◌, subst, arith, length-append}
use Rattle.word.specs.declared.Letter.{Letter}
use Rattle.node.specs.declared.faults.CheckFault.{CheckFault}
use Rattle.node.specs.declared.node.Node.{Node}
use Rattle.node.specs.declared.node.Node.TheVariants.{Layer as layer_node}
use Rattle.node.specs.declared.shape.Shape.{Shape}
use Rattle.node.specs.declared.verdict.Top.{Top}
use Rattle.node.specs.Plans.{Plan, single, layered, macro_count}
use Rattle.node.proofs.Sole.{checked_sole}
use Rattle.seal.specs.Sealing.{Seals, top_macros}
use Rattle.memory.specs.Meaning.{Meaning, Planned, whole, void, shaped}
use Rattle.memory.proofs.Ranges.{plan_ranged}
use Rattle.planner.specs.declared.listing.Planned.{Planned as Answer}
use Rattle.planner.specs.Listings.{Listed}
use Rattle.page.specs.declared.faults.RoomFault.{RoomFault}
use Rattle.wiring.specs.Counting.{MacrosCounted}
use Rattle.wiring.specs.Netlists.{NetlistWritten}
use Rattle.pile.specs.declared.faults.PlanningFault.{PlanningFault}
use Rattle.pile.specs.declared.faults.PlanningFault.TheVariants as planning
use Rattle.pile.specs.Surveys.{TopOf, NodesListed, NodesDrawn, PlanListed, PlanDrawn, MacrosDrawn}

-- a plan has a node
plan_some : {ns : List Node} {s : Shape} → Plan ns s → 0 < length ns
plan_some (single r) = omega arith
plan_some (layered l {p} {q} a b f) = omega (arith, plan_some a, length-append p (q ++ (layer_node l ∷ [])))

-- the tops of two passing answers are one
top_path : {t u : Top} → ◌≡◌ {A = Result Top CheckFault} (Ok t) (Ok u) → t ≡ u
top_path e = cc

-- the plan that is sealed is kept, with the memory's own top
pub sealed_own : {W : Type 0} (k : Letter) (m : Meaning W) (kept : List Node) (top : Option Top) → Planned k m → Seals m.plan kept top → (kept ≡ m.plan) × TopOf k m top
sealed_own k m kept (Some t) (whole p) s =
    let own : Top = record { shape = shaped k m; macros = macro_count m.plan } in
    let same : t ≡ own = top_path (checked_sole m.plan (Ok own) (p, refl) (Ok t) s.1) in
    let deep = (plan_ranged p.1).depth_low in
    (s.0, (omega arith, ap (λ (u : Top). u.shape) same, ap (λ (u : Top). u.macros) same))
sealed_own k m kept None (whole p) s = absurd (s.1 (shaped k m) p)
sealed_own k m kept (Some t) (void none r w d) s = absurd (omega (arith, plan_some s.1.0.1, ap length none))
sealed_own k m kept None (void none r w d) s = (s.0 ∙ sym none, (d, none))

-- the number of macros is the memory's own
own_macros : {W : Type 0} (k : Letter) (m : Meaning W) (top : Option Top) → TopOf k m top → top_macros top ≡ macro_count m.plan
own_macros k m (Some t) h = h.2
own_macros k m None h = sym (ap macro_count h.1)

-- nodes of a memory's plan, listed
pub listed_own : {W : Type 0} (k : Letter) (m : Meaning W) (ns : List Node) (text old new : List ℕ) (r : Result Answer PlanningFault) → Planned k m → ns ≡ m.plan → NodesListed ns text old new r → PlanListed k m text old new r
listed_own k m ns text old new (Ok p) planned e (s, kept, top, read, seals, listed) =
    let own = sealed_own k m kept top planned (subst (λ (xs : List Node). Seals xs kept top) e seals) in
    (s, top, read, own.1, subst (λ (xs : List Node). Listed xs top s old new (Ok p)) own.0 listed)
listed_own k m ns text old new (Err (planning.Stock f)) planned e h = h
listed_own k m ns text old new (Err (planning.Listing f)) planned e (s, kept, top, read, seals, listed) =
    let own = sealed_own k m kept top planned (subst (λ (xs : List Node). Seals xs kept top) e seals) in
    (s, top, read, own.1, subst (λ (xs : List Node). Listed xs top s old new (Err f)) own.0 listed)

-- macro lines by the memory's own count
drawn_macros : {W : Type 0} (k : Letter) (m : Meaning W) (top : Option Top) (new : List ℕ) (r : Result ℕ RoomFault) → TopOf k m top → MacrosCounted top new r → MacrosDrawn m new r
drawn_macros k m top new (Ok n) own counted = counted ∙ own_macros k m top own
drawn_macros k m top new (Err f) own counted = counted

-- nodes of a memory's plan, drawn
pub drawn_own : {W : Type 0} (k : Letter) (m : Meaning W) (ns : List Node) (old new : List ℕ) (r : Result ℕ RoomFault) → Planned k m → ns ≡ m.plan → NodesDrawn ns old new r → PlanDrawn k m old new r
drawn_own k m ns old new r planned e (kept, top, seals, written, counted) =
    let own = sealed_own k m kept top planned (subst (λ (xs : List Node). Seals xs kept top) e seals) in
    (top, own.1, subst (λ (xs : List Node). NetlistWritten xs top old new r) own.0 written, drawn_macros k m top new r own.1 counted)
