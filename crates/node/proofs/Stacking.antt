-- The steps of the check: what a node does to the stack, and to the plans that stand on it.
use Rattle.std.proofs.Common.{◌≡◌, ℕ, ◌+◌, ◌-◌, ◌<◌, List, [], ◌∷◌, ◌++◌, reverse, length, get_or, take, drop, filter, Some, None, Ok, Err, Option, sym, refl, ap, ◌∙◌, subst, append_assoc, arith}
use Rattle.std.specs.Option.{ok_or}
use Rattle.std.proofs.lemmas.List.{take_more, take_all, reverse-append, drop_more, take-append-drop}
use Rattle.node.specs.declared.faults.NodeFault.{NodeFault}
use Rattle.node.specs.declared.faults.NodeFault.TheVariants.{Unfit}
use Rattle.node.specs.declared.node.Node.{Node}
use Rattle.node.specs.declared.node.Node.TheVariants.{Macro as macro_node, Layer as layer_node}
use Rattle.node.specs.declared.node.Layer.{Layer}
use Rattle.node.specs.declared.shape.Shape.{Shape}
use Rattle.node.specs.Nodes.{Fits, Fitted, over, is_macro}
use Rattle.node.specs.Plans.{Plan, single, layered, Plans, none, then, macro_count}
use Rattle.node.specs.Stacks.{Taken}

-- halves of which no memory is made do not fit
pub unfit : (l : Layer) (a b : Shape) (o : Option Shape) {f : NodeFault} → Fitted l a b o → Err f ≡ ok_or o Unfit → (f ≡ Unfit) × (Fits l a b → ⊥)
unfit l a b None refused is = (cc, refused)
unfit l a b (Some s) made is = absurd (cc)

-- halves of which a memory is made fit
pub fitted : (l : Layer) (a b : Shape) (o : Option Shape) {s : Shape} → Fitted l a b o → Ok s ≡ ok_or o Unfit → Fits l a b × (s ≡ over l a b)
fitted l a b None refused is = absurd (cc)
fitted l a b (Some t) (fit, here) is = (fit, cc)

-- no memory has no nodes
pub plans_of_none : {ns : List Node} → Plans ns [] → ns ≡ []
plans_of_none none = refl

-- the nodes of one memory are its plan
pub plan_of_one : {ns : List Node} {s : Shape} → Plans ns (s ∷ []) → Plan ns s
plan_of_one {s = s} (then {ns} {p} before plan) = subst (λ (qs : List Node). Plan (qs ++ p) s) (sym (plans_of_none before)) plan

-- a layer over the last two memories
join : {ns : List Node} {a b : Shape} {st : List Shape} (l : Layer) → Plans ns (b ∷ (a ∷ st)) → Fits l a b → Plans (ns ++ (layer_node l ∷ [])) (over l a b ∷ st)
join {a = a} {b = b} {st = st} l (then {p = q} (then {ns = ns} {p = p} before first) second) fit =
    subst (λ (qs : List Node). Plans qs (over l a b ∷ st))
    (sym (append_assoc (ns ++ p) q (layer_node l ∷ []) ∙ append_assoc ns p (q ++ (layer_node l ∷ []))))
    (then before (layered l first second fit))

-- a node that is taken leaves plans of the memories on the stack
pub plans_more : {ns : List Node} {st st' : List Shape} (n : Node) → Plans ns st → Taken st n st' → Plans (ns ++ (n ∷ [])) st'
plans_more {ns} (macro_node m) before (ranged, is) = subst (Plans (ns ++ (macro_node m ∷ []))) (sym is) (then before (single ranged))
plans_more {ns} (layer_node l) before (a, b, rest, was, fit, is) =
    subst (Plans (ns ++ (layer_node l ∷ []))) (sym is) (join l (subst (Plans ns) was before) fit)

-- the last two of a list are the first two from its end
pub two_on_top : {X : Type 0} (old mid new : List X) (a b : X) → old ≡ mid ++ (b ∷ []) → mid ≡ new ++ (a ∷ []) → reverse old ≡ b ∷ (a ∷ reverse new)
two_on_top old mid new a b above below =
    rw (above, below) (reverse-append (new ++ (a ∷ [])) (b ∷ []) ∙ ap (λ st. b ∷ st) (reverse-append new (a ∷ [])))

-- nodes leave a memory
pub some_held : {ns : List Node} (xs : List Shape) → Plans ns (reverse xs) → 0 < length ns → 0 < length xs
some_held [] plans some = absurd (omega (arith, ap length (plans_of_none plans)))
some_held (x ∷ xs) plans some = omega arith

-- the one memory that nodes leave is their plan's
pub one_left : {ns : List Node} (xs : List Shape) (d : Shape) → Plans ns (reverse xs) → length xs ≡ 1 → Plan ns (get_or xs 0 d)
one_left [] d plans one = absurd (omega arith)
one_left (x ∷ []) d plans one = plan_of_one plans
one_left (x ∷ (y ∷ xs)) d plans one = absurd (omega arith)

-- the memory on top
pub top_held : {ns : List Node} (xs : List Shape) (d : Shape) → Plans ns (reverse xs) → 0 < length xs → Plans ns (get_or xs (length xs - 1) d ∷ reverse (take (length xs - 1) xs))
top_held {ns} xs d plans some =
    let whole : xs ≡ take (length xs - 1 + 1) xs = sym (take_all (length xs - 1 + 1) xs (omega arith)) in
    let split = ap reverse (whole ∙ take_more xs (length xs - 1) d (omega arith)) in
    subst (Plans ns) (split ∙ reverse-append (take (length xs - 1) xs) (get_or xs (length xs - 1) d ∷ [])) plans

-- the node at a place, between those before it and those after
pub split_at : (ns : List Node) (i : ℕ) (d : Node) → i < length ns → ns ≡ take i ns ++ (get_or ns i d ∷ drop (i + 1) ns)
split_at ns i d here = sym (take-append-drop i ns) ∙ ap (λ (qs : List Node). take i ns ++ qs) (drop_more ns i d here)

-- the macros among nodes
pub length_macros : (ns : List Node) → length (filter is_macro ns) ≡ macro_count ns
length_macros [] = refl
length_macros (macro_node m ∷ ns) = grind (arith, length_macros ns)
length_macros (layer_node l ∷ ns) = grind (arith, length_macros ns)
