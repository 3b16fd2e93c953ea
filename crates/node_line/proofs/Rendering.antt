-- A node's line as it is made up, part by part.
use Rattle.std.proofs.Common.{◌≡◌, ℕ, ◌^◌, ◌<◌, ◌≤◌, List, [], ◌∷◌, ◌++◌, length, codes, decimal, refl, ap, ◌∙◌, append_assoc, arith, lit≤, length-append}
use Rattle.std.proofs.lemmas.Fmt.{length-decimal-le}
use Rattle.node.specs.declared.node.Layer.{Layer}
use Rattle.node.specs.declared.node.Layer.TheVariants.{Replicate, Lvt, Xor, Depth, Width}
use Rattle.node.specs.declared.node.Macro.{Macro}
use Rattle.node.specs.declared.node.Node.{Node}
use Rattle.node.specs.declared.node.Node.TheVariants as node
use Rattle.node_line.specs.Lines.{line_of, letter_byte, layer_name, NodeInRange}

-- numbers of a macro, as its type bounds them
pub record Narrow (m : Macro) : Type 0 where
  pub kind : m.kind < 2 ^ 8
  pub reads : m.reads < 2 ^ 8
  pub writes : m.writes < 2 ^ 8
  pub depth : m.depth < 2 ^ 32

-- the parts of a macro's line, as they are added
abbrev pub macro_parts : Macro → ℕ → List ℕ
macro_parts m letter =
    codes "macro\t" ++ decimal m.kind ++ (9 ∷ []) ++ (letter ∷ []) ++ (9 ∷ []) ++ decimal m.reads ++ (9 ∷ []) ++ decimal m.writes ++ (9 ∷ []) ++ decimal m.depth ++ (10 ∷ [])

joined_parts : (a b c d : List ℕ) (x : ℕ) → codes "macro\t" ++ a ++ (9 ∷ []) ++ (x ∷ []) ++ (9 ∷ []) ++ b ++ (9 ∷ []) ++ c ++ (9 ∷ []) ++ d ++ (10 ∷ []) ≡ (codes "macro" ++ (9 ∷ (a ++ (9 ∷ (x ∷ (9 ∷ (b ++ (9 ∷ (c ++ (9 ∷ d)))))))))) ++ (10 ∷ [])
joined_parts a b c d x = simp append_assoc

-- they make up the line
pub macro_parts_are : (m : Macro) (x : ℕ) → x ≡ letter_byte m.letter → macro_parts m x ≡ line_of (node.Macro m) ++ (10 ∷ [])
macro_parts_are m x e =
    ap (macro_parts m) e ∙ joined_parts (decimal m.kind) (decimal m.reads) (decimal m.writes) (decimal m.depth) (letter_byte m.letter)

-- and have room in a line buffer
pub macro_parts_short : (m : Macro) (x : ℕ) → Narrow m → length (macro_parts m x) ≤ 64
macro_parts_short m x h =
    let a = length-decimal-le 3 m.kind (omega arith) (omega (arith, h.kind)) (omega (arith, h.kind)) in
    let b = length-decimal-le 3 m.reads (omega arith) (omega (arith, h.reads)) (omega (arith, h.reads)) in
    let c = length-decimal-le 3 m.writes (omega arith) (omega (arith, h.writes)) (omega (arith, h.writes)) in
    let d = length-decimal-le 10 m.depth (omega arith) (omega (arith, h.depth)) (omega (arith, h.depth)) in
    simp length-append (omega arith)

-- a line buffer has room for every layer's name and its end
pub layer_short : (l : Layer) → length (layer_name l ++ (10 ∷ [])) ≤ 64
layer_short Replicate = lit≤ tt
layer_short Lvt = lit≤ tt
layer_short Xor = lit≤ tt
layer_short Depth = lit≤ tt
layer_short Width = lit≤ tt

-- and for the line of every node in range
pub line_short : (n : Node) → NodeInRange n → length (line_of n ++ (10 ∷ [])) ≤ 64
line_short (node.Macro m) h =
    let narrow : Narrow m = record { kind = omega (arith, h.kind_high); reads = omega (arith, h.reads_high); writes = omega (arith, h.writes_high); depth = omega (arith, h.depth_high) } in
    omega (arith, macro_parts_short m (letter_byte m.letter) narrow, ap length (macro_parts_are m (letter_byte m.letter) refl))
line_short (node.Layer l) h = layer_short l
