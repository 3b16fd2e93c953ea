-- The line of a node in range determines the node, and holds no end of line.
use Rattle.std.proofs.Common.{◌≡◌, ℕ, cond, eqb, get_or, codes, decimal, sym, refl, ap, ◌∙◌, arith}
use Rattle.std.specs.Str.Iter.{LacksByte}
use Rattle.std.proofs.lemmas.Fmt.{decimal_injective}
use Rattle.text.proofs.Cuts.{Free, free_by_test, free_decimal, free_then, lacks_from_free}
use Rattle.node.specs.declared.node.Layer.{Layer}
use Rattle.node.specs.declared.node.Layer.TheVariants.{Replicate, Lvt, Xor, Depth, Width}
use Rattle.node.specs.declared.node.Node.{Node}
use Rattle.node.specs.declared.node.Node.TheVariants as node
use Rattle.node_line.specs.Lines.{line_of, layer_name, NodeInRange}
use Rattle.node_line.proofs.Rows.{letter_free, macro_row, name_free, same_row, not_layer}

-- the layer whose name begins with a byte
abbrev layer_from : ℕ → Layer
layer_from b = cond (eqb b 114) Replicate (cond (eqb b 108) Lvt (cond (eqb b 120) Xor (cond (eqb b 100) Depth Width)))

-- a layer's name begins as no other does
layer_back : (x : Layer) → layer_from (get_or (layer_name x) 0 0) ≡ x
layer_back Replicate = refl
layer_back Lvt = refl
layer_back Xor = refl
layer_back Depth = refl
layer_back Width = refl

-- layers with one name are one layer
same_layer : (x y : Layer) → layer_name x ≡ layer_name y → x ≡ y
same_layer x y e = sym (layer_back x) ∙ ap (λ l. layer_from (get_or l 0 0)) e ∙ layer_back y

-- nodes in range with one line are one node
pub same_node : (n m : Node) → NodeInRange n → NodeInRange m → line_of n ≡ line_of m → n ≡ m
same_node (node.Macro a) (node.Macro b) h k e =
    let p = same_row (macro_row a h refl) (macro_row b k (cc)) in
    let kind = decimal_injective a.kind b.kind (omega arith) (omega arith) p.0 in
    let reads = decimal_injective a.reads b.reads (omega arith) (omega arith) p.2 in
    let writes = decimal_injective a.writes b.writes (omega arith) (omega arith) p.3 in
    let depth = decimal_injective a.depth b.depth (omega arith) (omega arith) p.4 in
    λ i. node.Macro (record { kind = kind i; letter = p.1 i; reads = reads i; writes = writes i; depth = depth i })
same_node (node.Macro a) (node.Layer y) h k e = absurd (not_layer (codes "macro") _ y refl e)
same_node (node.Layer x) (node.Macro b) h k e = absurd (not_layer (codes "macro") _ x refl (sym e))
same_node (node.Layer x) (node.Layer y) h k e = ap node.Layer (same_layer x y e)

-- the line of a node in range is free of ends of line
line_free : (n : Node) → NodeInRange n → Free 10 (line_of n)
line_free (node.Macro m) h =
    free_then (codes "macro") _ (free_by_test 10 (codes "macro") refl)
    (free_then (decimal m.kind) _ (free_decimal _) (
      letter_free m.letter,
      (
        (λ e. omega arith),
        free_then (decimal m.reads) _ (free_decimal _)
            (free_then (decimal m.writes) _ (free_decimal _) (free_decimal _)),
      ),
    ))
line_free (node.Layer l) h = name_free l

-- the line of a node in range lacks byte 10
pub line_lacks : (n : Node) → NodeInRange n → LacksByte 10 (line_of n)
line_lacks n h = lacks_from_free 10 (line_of n) (line_free n h)
