-- What a node does to the stack, and to the parts that stand on it.
use Rattle.std.proofs.Common.{◌≡◌, ℕ, ◌+◌, ◌-◌, ◌<◌, List, [], ◌∷◌, ◌++◌, length, get_or, take, drop, sym, refl, ◌∙◌, subst, subst₂, append_assoc, arith, length-append}
use mathlib.Core.Path.{subst₃}
use Rattle.std.proofs.lemmas.List.{length-take-le, take_more}
use Rattle.node.specs.declared.faults.NodeFault.{NodeFault}
use Rattle.node.specs.declared.node.Layer.{Layer}
use Rattle.node.specs.declared.node.Node.{Node}
use Rattle.node.specs.declared.node.Node.TheVariants.{Macro as macro_node, Layer as layer_node}
use Rattle.node.specs.declared.shape.Shape.{Shape}
use Rattle.node.specs.Nodes.{Fits, over}
use Rattle.node.specs.Plans as plans
use Rattle.node.proofs.Sole.{refused_none}
use Rattle.node.proofs.Stacking.{split_at}
use Rattle.wires.specs.declared.wire.Part.{Part}
use Rattle.wiring.specs.Netlists.{Wired, single, layered, layer_lines}
use Rattle.wiring.specs.Parts.{shapes, Parts, none, then, Taken, NoPlan}

-- what is wired is a plan
pub wired_plan : {start : ℕ} {ns : List Node} {s : Shape} {ls : List (List ℕ)} → Wired start ns s ls → plans.Plan ns s
wired_plan (single ranged) = plans.single ranged
wired_plan (layered l first second fit) = plans.layered l (wired_plan first) (wired_plan second) fit

-- and parts are plans
pub parts_plans : {ns : List Node} {ps : List Part} {ls : List (List ℕ)} → Parts ns ps ls → plans.Plans ns (shapes ps)
parts_plans none = plans.none
parts_plans (then before wired) = plans.then (parts_plans before) (wired_plan wired)

-- the same nodes, root and lines in other words
parts_is : {ns ns' : List Node} {root root' : ℕ} {s : Shape} {ps : List Part} {ls ls' : List (List ℕ)} → ns ≡ ns' → root ≡ root' → ls ≡ ls' → Parts ns (record { root = root; shape = s } ∷ ps) ls → Parts ns' (record { root = root'; shape = s } ∷ ps) ls'
parts_is {s = s} {ps = ps} nodes roots lines parts = subst₃ (λ (ns : List Node) (root : ℕ) (ls : List (List ℕ)). Parts ns (record { root = root; shape = s } ∷ ps) ls) nodes roots lines parts

-- a layer over the last two parts
join : {ns : List Node} {a b : Part} {ps : List Part} {ls : List (List ℕ)} (l : Layer) → Parts ns (b ∷ (a ∷ ps)) ls → Fits l a.shape b.shape → Parts (ns ++ (layer_node l ∷ [])) (record { root = length ns; shape = over l a.shape b.shape } ∷ ps) (ls ++ layer_lines l (length ns) a.root b.root a.shape b.shape)
join l (then {p = q} {s = b} {ms = ms'} (then {ns = ns} {p = p} {s = a} {ls = ls} {ms = ms} before first) second) fit =
    let own = layer_node l ∷ [] in
    let half = length-append ns p in
    let both = length-append (ns ++ p) q in
    let here : length ns + length p + length q ≡ length ((ns ++ p) ++ q) = omega arith in
    let last : length ns + length p + length q - 1 ≡ length (ns ++ p) + length q - 1 = omega arith in
    let root : length ns + length (p ++ (q ++ own)) - 1 ≡ length ((ns ++ p) ++ q) = omega (arith, length-append p (q ++ own), length-append q own) in
    let lines = λ (i : ℕ) (j : ℕ). layer_lines l i (length ns + length p - 1) j a b in
    parts_is (sym (append_assoc (ns ++ p) q own ∙ append_assoc ns p (q ++ own))) root
    (
    sym (append_assoc (ls ++ ms) ms' (lines _ _) ∙ append_assoc ls ms (ms' ++ lines _ _))
    ∙ (λ i. ((ls ++ ms) ++ ms') ++ lines (here i) (last i))
    )
    (then before (layered l first (subst (λ (k : ℕ). Wired k q b ms') half second) fit))

-- a node that is taken leaves parts with its lines
pub parts_more : {ns : List Node} {ps ps' : List Part} {ls : List (List ℕ)} (ms : List (List ℕ)) (n : Node) → Parts ns ps ls → Taken (length ns) ps n ps' ms → Parts (ns ++ (n ∷ [])) ps' (ls ++ ms)
parts_more {ns} {ls = ls} ms (macro_node m) before (ranged, is, lines) =
    let root : length ns + 1 - 1 ≡ length ns = omega arith in
    subst₂ (λ (qs : List Part) (ks : List (List ℕ)). Parts (ns ++ (macro_node m ∷ [])) qs (ls ++ ks)) (sym is) (sym lines)
    (parts_is refl root refl (then before (single ranged)))
parts_more {ns} {ls = ls} ms (layer_node l) before (a, b, rest, was, fit, is, lines) =
    subst₂ (λ (qs : List Part) (ks : List (List ℕ)). Parts (ns ++ (layer_node l ∷ [])) qs (ls ++ ks)) (sym is) (sym lines)
    (join l (subst (λ (qs : List Part). Parts ns qs ls) was before) fit)

-- the node at a place is taken
pub parts_next : (ns : List Node) (i : ℕ) (d : Node) {ps ps' : List Part} {ls : List (List ℕ)} (ms : List (List ℕ)) → i < length ns → Parts (take i ns) ps ls → Taken i ps (get_or ns i d) ps' ms → Parts (take (i + 1) ns) ps' (ls ++ ms)
parts_next ns i d {ps} {ps'} {ls} ms here before taken =
    subst (λ (qs : List Node). Parts qs ps' (ls ++ ms)) (sym (take_more ns i d here))
    (parts_more ms (get_or ns i d) before (subst (λ (k : ℕ). Taken k ps (get_or ns i d) ps' ms) (sym (length-take-le i ns (omega arith))) taken))

-- the node at a place is refused
pub parts_stop : (ns : List Node) (i : ℕ) (d : Node) {ps : List Part} {ls : List (List ℕ)} (f : NodeFault) → i < length ns → Parts (take i ns) ps ls → plans.NodeRefused (shapes ps) (get_or ns i d) f → NoPlan ns
parts_stop ns i d {ps} f here before refused s plan =
    let first : plans.FirstRefused ns (length (take i ns) + 1) f = record {
      before = take i ns;
      node = get_or ns i d;
      after = drop (i + 1) ns;
      shapes = shapes ps;
      split = split_at ns i d here;
      here = refl;
      taken = parts_plans before;
      refused = refused;
    } in
    refused_none first (plans.then plans.none plan)
