-- The check has one answer to any nodes: to go through them node by node leaves no choice, and each answer tells where that ends.
use Rattle.std.proofs.Common.{◌≡◌, ℕ, ◌+◌, ◌-◌, ◌<◌, ◌≤◌, ◌⊎◌, List, [], ◌∷◌, ◌++◌, length, Ok, Err, Result, sym, refl, ap, ◌∙◌, subst, inl, inr, append_assoc, append-nil, arith, length-append}
use Rattle.node.specs.declared.verdict.Top.{Top}
use Rattle.node.specs.declared.faults.CheckFault.{CheckFault}
use Rattle.node.specs.declared.faults.CheckFault.TheVariants as fault
use Rattle.node.specs.declared.faults.NodeFault.{NodeFault}
use Rattle.node.specs.declared.faults.NodeFault.TheVariants.{OutOfRange, TooFewMemories, Unfit}
use Rattle.node.specs.declared.node.Node.{Node}
use Rattle.node.specs.declared.node.Node.TheVariants.{Macro as macro_node, Layer as layer_node}
use Rattle.node.specs.declared.shape.Shape.{Shape}
use Rattle.node.specs.Nodes.{InRange}
use Rattle.node.specs.Plans.{Plan, single, layered, Plans, none, then, NodeRefused, FirstRefused, macro_count, Checked, Sole}
use Rattle.node.specs.Stacks.{Taken}

-- where the way through the nodes ends: after the last one, with the shapes of the memories, or at a
-- refused one, with the number of nodes after it
data Outcome : Type 0 where
  gone : List Shape → Outcome
  stopped : ℕ → NodeFault → Outcome

-- where the way through some nodes ends that starts with memories of some shapes
data Ends : List Shape → List Node → Outcome → Type 0 where
  all : {st : List Shape} → Ends st [] (gone st)
  goes : {st mid : List Shape} {n : Node} {ns : List Node} {o : Outcome} → Taken st n mid → Ends mid ns o → Ends st (n ∷ ns) o
  stops : {st : List Shape} {n : Node} {ns : List Node} {f : NodeFault} → NodeRefused st n f → Ends st (n ∷ ns) (stopped (length ns) f)

-- a node makes one thing of the memories before it
taken_sole : (st : List Shape) (n : Node) (out out' : List Shape) → Taken st n out → Taken st n out' → out ≡ out'
taken_sole st (macro_node m) out out' (ranged, is) (ranged', is') = is ∙ sym is'
taken_sole st (layer_node l) out out' (a, b, rest, was, fit, is) (a', b', rest', was', fit', is') = cc

-- a node that is taken is not refused
taken_stays : (st : List Shape) (n : Node) (out : List Shape) (f : NodeFault) → Taken st n out → NodeRefused st n f → ⊥
taken_stays st (macro_node m) out OutOfRange (ranged, is) (m', e, out_of_lem) = let same : m ≡ m' = cc in out_of_lem (subst InRange same ranged)
taken_stays st (macro_node m) out TooFewMemories (ranged, is) (l, e, few) = cc
taken_stays st (macro_node m) out Unfit (ranged, is) (l, a, b, rest, e, was, unfit) = cc
taken_stays st (layer_node l) out OutOfRange (a, b, rest, was, fit, is) (m, e, out_of_lem) = cc
taken_stays st (layer_node l) out TooFewMemories (a, b, rest, was, fit, is) (l', e, few) = omega (arith, ap length was)
taken_stays st (layer_node l) out Unfit (a, b, rest, was, fit, is) (l', a', b', rest', e, was', unfit) =
    let layers : l ≡ l' = cc in
    let firsts : a ≡ a' = cc in
    let seconds : b ≡ b' = cc in
    unfit (rw (← layers, ← firsts, ← seconds) fit)

-- a node is refused for one reason
refused_sole : (st : List Shape) (n : Node) (f f' : NodeFault) → NodeRefused st n f → NodeRefused st n f' → f ≡ f'
refused_sole st n OutOfRange OutOfRange h h' = refl
refused_sole st n OutOfRange TooFewMemories (m, e, out_of_lem) (l, e', few) = cc
refused_sole st n OutOfRange Unfit (m, e, out_of_lem) (l, a, b, rest, e', was, unfit) = cc
refused_sole st n TooFewMemories OutOfRange (l, e, few) (m, e', out_of_lem) = cc
refused_sole st n TooFewMemories TooFewMemories h h' = refl
refused_sole st n TooFewMemories Unfit (l, e, few) (l', a, b, rest, e', was, unfit) = absurd (omega (arith, ap length was))
refused_sole st n Unfit OutOfRange (l, a, b, rest, e, was, unfit) (m, e', out_of_lem) = cc
refused_sole st n Unfit TooFewMemories (l, a, b, rest, e, was, unfit) (l', e', few) = absurd (omega (arith, ap length was))
refused_sole st n Unfit Unfit h h' = refl

-- the way through the nodes ends at one place
ends_sole : {st : List Shape} {ns : List Node} {o o' : Outcome} → Ends st ns o → Ends st ns o' → o ≡ o'
ends_sole all all = refl
ends_sole {o' = o'} (goes {ns = ns} taken rest) (goes taken' rest') =
    ends_sole rest (subst (λ (st : List Shape). Ends st ns o') (taken_sole _ _ _ _ taken' taken) rest')
ends_sole (goes taken rest) (stops refused) = absurd (taken_stays _ _ _ _ taken refused)
ends_sole (stops refused) (goes taken rest) = absurd (taken_stays _ _ _ _ taken refused)
ends_sole (stops {ns = ns} refused) (stops refused') = ap (stopped (length ns)) (refused_sole _ _ _ _ refused refused')

-- through the nodes of a memory, and on
plan_ends : {p ns : List Node} {s : Shape} {o : Outcome} (st : List Shape) → Plan p s → Ends (s ∷ st) ns o → Ends st (p ++ ns) o
plan_ends st (single ranged) rest = goes (ranged, refl) rest
plan_ends st (layered l {a = a} {b = b} first second fit) rest =
    simp append_assoc (plan_ends st first (plan_ends (a ∷ st) second (goes (a, b, st, refl, fit, refl) rest)))

-- through the nodes of several memories, and on
plans_end : {ns after : List Node} {st : List Shape} {o : Outcome} → Plans ns st → Ends st after o → Ends [] (ns ++ after) o
plans_end none rest = rest
plans_end (then {st = st} before plan) rest = rw append_assoc (plans_end before (plan_ends st plan rest))

-- nodes are the nodes of the same memories in every way
pub plans_sole : {ns : List Node} {st st' : List Shape} → Plans ns st → Plans ns st' → st ≡ st'
plans_sole plans plans' = let same = ends_sole (rw append-nil at (plans_end plans all)) (rw append-nil at (plans_end plans' all)) in cc

-- nodes of which one is refused are no memories' nodes
pub refused_none : {ns : List Node} {place : ℕ} {f : NodeFault} {st : List Shape} → FirstRefused ns place f → Plans ns st → ⊥
refused_none {f = f} {st = st} first plans =
    let same : gone st ≡ stopped (length first.after) f = ends_sole (rw append-nil at (plans_end plans all)) (rw first.split (plans_end first.taken (stops first.refused))) in cc

-- the answer to at most 64 nodes, by where the way through them ends
answer : List Node → Outcome → Result Top CheckFault
answer ns (gone []) = Err fault.NoNodes
answer ns (gone (s ∷ [])) = Ok (record { shape = s; macros = macro_count ns })
answer ns (gone (b ∷ (a ∷ st))) = Err (fault.ManyMemories (length ns + 1))
answer ns (stopped left f) = Err (fault.Node (length ns - left) f)

-- several memories are one too many
many_answer : (ns : List Node) (st : List Shape) → 1 < length st → answer ns (gone st) ≡ Err (fault.ManyMemories (length ns + 1))
unfolding answer
many_answer ns [] many = absurd (omega arith)
many_answer ns (s ∷ []) many = absurd (omega arith)
many_answer ns (b ∷ (a ∷ st)) many = refl

-- an answer is that there are too many nodes, or the one to where the way through them ends
Answered : List Node → Result Top CheckFault → Type 0
Answered ns q = ((64 < length ns) × (q ≡ Err fault.TooManyNodes)) ⊎ ((o : Outcome) × (length ns ≤ 64) × Ends [] ns o × (q ≡ answer ns o))

-- what the check may answer is such an answer
checked_answered : (ns : List Node) (q : Result Top CheckFault) → Checked ns q → Answered ns q
unfolding answer Answered
checked_answered ns (Ok t) ((few, plan), count) =
    inr (
      gone (t.shape ∷ []),
      few,
      rw append-nil at (plan_ends [] plan all),
      ap (λ (k : ℕ). Ok (record { shape = t.shape; macros = k })) count,
    )
checked_answered ns (Err fault.NoNodes) is = inr (gone [], omega (arith, ap length is), rw is all, refl)
checked_answered ns (Err fault.TooManyNodes) many = inl (many, refl)
checked_answered ns (Err (fault.Node place f)) (few, first) =
    let left = length first.after in
    let here : place ≡ length ns - left = omega (arith, first.here, ap length first.split, length-append first.before (first.node ∷ first.after)) in
    inr (
      stopped left f,
      few,
      rw first.split (plans_end first.taken (stops first.refused)),
      ap (λ (k : ℕ). Err (fault.Node k f)) here,
    )
checked_answered ns (Err (fault.ManyMemories place)) (few, is, (st, plans, many)) =
    inr (
      gone st,
      few,
      rw append-nil at (plans_end plans all),
      ap (λ (k : ℕ). Err (fault.ManyMemories k)) is ∙ sym (many_answer ns st many),
    )

-- what the check may answer is the one answer
pub checked_sole : (ns : List Node) (r : Result Top CheckFault) → Checked ns r → Sole ns r
unfolding Answered
checked_sole ns r h q k =
    elim (checked_answered ns q k) [
      | inl (many, is) ↦ elim (checked_answered ns r h) [ inl (many', is') ↦ is ∙ sym is' | inr (o, few, ends, is') ↦ absurd (omega arith) ]
      | inr (o, few, ends, is) ↦ elim (checked_answered ns r h) [
        | inl (many, is') ↦ absurd (omega arith)
        | inr (o', few', ends', is') ↦ is ∙ ap (answer ns) (ends_sole ends ends') ∙ sym is'
      ]
    ]
