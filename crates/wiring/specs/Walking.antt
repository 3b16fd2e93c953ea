-- To go through the nodes one by one leaves no choice of their lines.
use Rattle.std.proofs.Common.{◌≡◌, ℕ, ◌+◌, ◌-◌, List, [], ◌∷◌, ◌++◌, length, sym, refl, ap, ◌∙◌, subst, subst₂, append_assoc, append-nil, arith, length-append}
use Rattle.node.specs.declared.node.Node.{Node}
use Rattle.node.specs.declared.node.Node.TheVariants.{Macro as macro_node, Layer as layer_node}
use Rattle.node.specs.declared.shape.Shape.{Shape}
use Rattle.node.specs.declared.verdict.Top.{Top}
use Rattle.node.specs.Nodes.{over}
use Rattle.wires.specs.declared.wire.Part.{Part}
use Rattle.wiring.specs.Netlists.{Wired, single, layered, layer_lines, netlist_text, NetlistText}
use Rattle.wiring.specs.Parts.{Parts, none, then, Taken}

-- the way through nodes, numbered from some number on, from some parts to others, with the lines
data Walk : ℕ → List Part → List Node → List Part → List (List ℕ) → Type 0 where
  all : {i : ℕ} {ps : List Part} → Walk i ps [] ps []
  goes : {i : ℕ} {ps mid out : List Part} {n : Node} {ns : List Node} (ls : List (List ℕ)) {ms : List (List ℕ)} → Taken i ps n mid ls → Walk (i + 1) mid ns out ms → Walk i ps (n ∷ ns) out (ls ++ ms)

-- a node makes one thing of the parts before it, and has one list of lines
taken_sole : (i : ℕ) (ps : List Part) (n : Node) (out out' : List Part) (ls ls' : List (List ℕ)) → Taken i ps n out ls → Taken i ps n out' ls' → (out ≡ out') × (ls ≡ ls')
taken_sole i ps (macro_node m) out out' ls ls' (ranged, is, lines) (ranged', is', lines') = (is ∙ sym is', lines ∙ sym lines')
taken_sole i ps (layer_node l) out out' ls ls' (a, b, rest, was, fit, is, lines) (a', b', rest', was', fit', is', lines') =
    let first : a ≡ a' = cc in
    let second : b ≡ b' = cc in
    let more : rest ≡ rest' = cc in (
      is ∙ (λ j. record { root = i; shape = over l (first j).shape (second j).shape } ∷ more j) ∙ sym is',
      lines ∙ (λ j. layer_lines l i (first j).root (second j).root (first j).shape (second j).shape) ∙ sym lines',
    )

-- the way through the nodes has one list of lines
walk_sole : {i : ℕ} {ps out out' : List Part} {ns : List Node} {ls ls' : List (List ℕ)} → Walk i ps ns out ls → Walk i ps ns out' ls' → ls ≡ ls'
walk_sole all all = refl
walk_sole {i} {out' = out'} (goes {ns = ns} ls taken rest) (goes ls' {ms = ms'} taken' rest') =
    let same = taken_sole _ _ _ _ _ ls' ls taken' taken in
    let more = walk_sole rest (subst (λ (ps : List Part). Walk (i + 1) ps ns out' ms') same.0 rest') in
    λ j. sym same.1 j ++ more j

-- through the nodes of a memory, and on
wired_walks : {start : ℕ} {p ns : List Node} {s : Shape} {ls ms : List (List ℕ)} {out : List Part} (ps : List Part) → Wired start p s ls → Walk (start + length p) (record { root = start + length p - 1; shape = s } ∷ ps) ns out ms → Walk start ps (p ++ ns) out (ls ++ ms)
wired_walks {start} {ns = ns} {s = s} {ms = ms} {out = out} ps (single ranged) rest =
    let root : start + 1 - 1 ≡ start = omega arith in
    goes _ (ranged, refl, refl) (subst (λ (k : ℕ). Walk (start + 1) (record { root = k; shape = s } ∷ ps) ns out ms) root rest)
wired_walks {start} {ns = ns} {s = s} {ms = ms} {out = out} ps (layered l {p} {q} {a} {b} {ls} {ms = ls'} first second fit) rest =
    let own = layer_node l ∷ [] in
    let lines = layer_lines l (start + length p + length q) (start + length p - 1) (start + length p + length q - 1) a b in
    let sizes = length-append p (q ++ own) in
    let size = length-append q own in
    let next : start + length (p ++ (q ++ own)) ≡ start + length p + length q + 1 = omega arith in
    let root : start + length (p ++ (q ++ own)) - 1 ≡ start + length p + length q = omega arith in
    let on = subst₂ (λ (i : ℕ) (k : ℕ). Walk i (record { root = k; shape = s } ∷ ps) ns out ms) next root rest in
    let through = wired_walks ps first (wired_walks _ second (goes lines (_, _, ps, refl, fit, refl, refl) on)) in
    subst₂ (λ (xs : List Node) (ks : List (List ℕ)). Walk start ps xs out ks)
    (sym (append_assoc p (q ++ own) ns ∙ ap (λ (xs : List Node). p ++ xs) (append_assoc q own ns)))
    (sym (append_assoc ls (ls' ++ lines) ms ∙ ap (λ (ks : List (List ℕ)). ls ++ ks) (append_assoc ls' lines ms)))
    through

-- through the nodes of several memories, and on
parts_walk : {ns after : List Node} {ps out : List Part} {ls ms : List (List ℕ)} → Parts ns ps ls → Walk (length ns) ps after out ms → Walk 0 [] (ns ++ after) out (ls ++ ms)
parts_walk none rest = rest
parts_walk {after = after} {out = out} {ms = ms} (then {ns} {p} {ps} {s} {ls} {ms = ls'} before wired) rest =
    let on = subst (λ (i : ℕ). Walk i (record { root = length ns + length p - 1; shape = s } ∷ ps) after out ms) (length-append ns p) rest in
    subst₂ (λ (xs : List Node) (ks : List (List ℕ)). Walk 0 [] xs out ks)
    (sym (append_assoc ns p after))
    (sym (append_assoc ls ls' ms))
    (parts_walk before (wired_walks ps wired on))

-- the way through all nodes
whole_walk : {ns : List Node} {ps : List Part} {ls : List (List ℕ)} → Parts ns ps ls → Walk 0 [] ns ps ls
whole_walk {ns} {ps} {ls} parts = subst₂ (λ (xs : List Node) (ks : List (List ℕ)). Walk 0 [] xs ps ks) (append-nil ns) (append-nil ls) (parts_walk parts all)

-- nodes have one list of lines
pub parts_sole : {ns : List Node} {ps ps' : List Part} {ls ls' : List (List ℕ)} → Parts ns ps ls → Parts ns ps' ls' → ls ≡ ls'
parts_sole parts parts' = walk_sole (whole_walk parts) (whole_walk parts')

-- and so do those of one memory
pub wired_sole : {ns : List Node} {s s' : Shape} {ls ls' : List (List ℕ)} → Wired 0 ns s ls → Wired 0 ns s' ls' → ls ≡ ls'
wired_sole wired wired' = parts_sole (then none wired) (then none wired')

-- so nodes with their top have one netlist
pub text_sole : (ns : List Node) (t : Top) (bytes others : List ℕ) → NetlistText ns t bytes → NetlistText ns t others → bytes ≡ others
text_sole ns t bytes others (ls, wired, is) (ls', wired', is') =
    is ∙ ap (λ (ks : List (List ℕ)). netlist_text ks (length ns - 1) t.macros) (wired_sole wired wired') ∙ sym is'
