-- The lines as they are made up, part by part: each has room in a line buffer.
use Rattle.std.proofs.Common.{◌≡◌, ℕ, ◌^◌, ◌<◌, ◌≤◌, List, [], ◌∷◌, ◌++◌, length, codes, decimal, append_assoc, arith, lit≤, length-append}
use Rattle.std.proofs.lemmas.Fmt.{length-decimal-le}
use Rattle.node.specs.declared.node.Layer.{Layer}
use Rattle.node.specs.declared.node.Layer.TheVariants.{Replicate, Lvt, Xor, Depth, Width}
use Rattle.node.specs.declared.node.Macro.{Macro}
use Rattle.node.specs.declared.shape.Shape.{Shape}
use Rattle.node.specs.Nodes.{shape_of}
use Rattle.node_line.specs.Lines.{layer_name, letter_byte}
use Rattle.wires.specs.declared.wire.Wire.{Wire}
use Rattle.wires.specs.Lines.{macro_line, layer_line, wire_line, top_line, mark_byte, shape_end}

-- a number of one byte has at most three digits
narrow : (n : ℕ) → n < 2 ^ 8 → length (decimal n) ≤ 3
narrow n h = length-decimal-le 3 n (omega arith) (omega arith) (omega arith)

-- numbers of a shape, as its type bounds them
pub record Narrow (s : Shape) : Type 0 where
  pub reads : s.reads < 2 ^ 8
  pub writes : s.writes < 2 ^ 8
  pub depth : s.depth < 2 ^ 32

-- the end of a memory's line, part by part
pub shape_end_is : (a b d : List ℕ) → (9 ∷ []) ++ a ++ (9 ∷ []) ++ b ++ (9 ∷ []) ++ d ++ (10 ∷ []) ≡ 9 ∷ ((a ++ (9 ∷ (b ++ (9 ∷ d)))) ++ (10 ∷ []))
shape_end_is a b d = simp append_assoc

-- it has at most 20 bytes
shape_short : (s : Shape) → Narrow s → length (shape_end s) ≤ 20
shape_short s h =
    let a = narrow s.reads h.reads in
    let b = narrow s.writes h.writes in
    let d = length-decimal-le 10 s.depth (omega arith) (omega (arith, h.depth)) (omega (arith, h.depth)) in
    simp length-append (omega arith)

-- the parts of a macro's line
abbrev pub macro_parts : ℕ → Macro → List ℕ
macro_parts n m = codes "macro" ++ (9 ∷ []) ++ decimal n ++ (9 ∷ []) ++ decimal m.kind ++ (9 ∷ []) ++ (letter_byte m.letter ∷ []) ++ shape_end (shape_of m)

macro_joined : (word n k a b d : List ℕ) (x : ℕ) → word ++ (9 ∷ []) ++ n ++ (9 ∷ []) ++ k ++ (9 ∷ []) ++ (x ∷ []) ++ (9 ∷ ((a ++ (9 ∷ (b ++ (9 ∷ d)))) ++ (10 ∷ []))) ≡ (word ++ (9 ∷ (n ++ (9 ∷ (k ++ (9 ∷ (x ∷ (9 ∷ (a ++ (9 ∷ (b ++ (9 ∷ d)))))))))))) ++ (10 ∷ [])
macro_joined word n k a b d x = simp append_assoc

pub macro_is : (n : ℕ) (m : Macro) → macro_parts n m ≡ macro_line n m ++ (10 ∷ [])
macro_is n m = macro_joined (codes "macro") (decimal n) (decimal m.kind) (decimal m.reads) (decimal m.writes) (decimal m.depth) (letter_byte m.letter)

macro_size : (word n k end : List ℕ) (x : ℕ) → length word ≤ 5 → length n ≤ 3 → length k ≤ 3 → length end ≤ 20 → length (word ++ (9 ∷ []) ++ n ++ (9 ∷ []) ++ k ++ (9 ∷ []) ++ (x ∷ []) ++ end) ≤ 64
macro_size word n k end x h i j l = simp length-append (omega arith)

pub macro_short : (n : ℕ) (m : Macro) → n < 2 ^ 8 → m.kind < 2 ^ 8 → Narrow (shape_of m) → length (macro_parts n m) ≤ 64
macro_short n m h k s =
    macro_size (codes "macro") (decimal n) (decimal m.kind) (shape_end (shape_of m)) (letter_byte m.letter) (lit≤ tt) (narrow n h) (narrow m.kind k) (shape_short (shape_of m) s)

-- the parts of a layer's line
abbrev pub layer_parts : Layer → ℕ → ℕ → ℕ → Shape → List ℕ
layer_parts l n a b s = layer_name l ++ (9 ∷ []) ++ decimal n ++ (9 ∷ []) ++ decimal a ++ (9 ∷ []) ++ decimal b ++ shape_end s

layer_joined : (name n a b r w d : List ℕ) → name ++ (9 ∷ []) ++ n ++ (9 ∷ []) ++ a ++ (9 ∷ []) ++ b ++ (9 ∷ ((r ++ (9 ∷ (w ++ (9 ∷ d)))) ++ (10 ∷ []))) ≡ (name ++ (9 ∷ (n ++ (9 ∷ (a ++ (9 ∷ (b ++ (9 ∷ (r ++ (9 ∷ (w ++ (9 ∷ d)))))))))))) ++ (10 ∷ [])
layer_joined name n a b r w d = simp append_assoc

pub layer_is : (l : Layer) (n a b : ℕ) (s : Shape) → layer_parts l n a b s ≡ layer_line l n a b s ++ (10 ∷ [])
layer_is l n a b s = layer_joined (layer_name l) (decimal n) (decimal a) (decimal b) (decimal s.reads) (decimal s.writes) (decimal s.depth)

name_short : (l : Layer) → length (layer_name l) ≤ 9
name_short Replicate = lit≤ tt
name_short Lvt = lit≤ tt
name_short Xor = lit≤ tt
name_short Depth = lit≤ tt
name_short Width = lit≤ tt

layer_size : (name n a b end : List ℕ) → length name ≤ 9 → length n ≤ 3 → length a ≤ 3 → length b ≤ 3 → length end ≤ 20 → length (name ++ (9 ∷ []) ++ n ++ (9 ∷ []) ++ a ++ (9 ∷ []) ++ b ++ end) ≤ 64
layer_size name n a b end h i j k l = simp length-append (omega arith)

pub layer_short : (l : Layer) (n a b : ℕ) (s : Shape) → n < 2 ^ 8 → a < 2 ^ 8 → b < 2 ^ 8 → Narrow s → length (layer_parts l n a b s) ≤ 64
layer_short l n a b s h i j k =
    layer_size (layer_name l) (decimal n) (decimal a) (decimal b) (shape_end s) (name_short l) (narrow n h) (narrow a i) (narrow b j) (shape_short s k)

-- the parts of a wire's line
abbrev pub wire_parts : Wire → List ℕ
wire_parts w = (mark_byte w.mark ∷ []) ++ (9 ∷ []) ++ decimal w.node ++ (9 ∷ []) ++ decimal w.port ++ (9 ∷ []) ++ decimal w.half ++ (9 ∷ []) ++ decimal w.inner ++ (10 ∷ [])

wire_joined : (x : ℕ) (n p h i : List ℕ) → (x ∷ []) ++ (9 ∷ []) ++ n ++ (9 ∷ []) ++ p ++ (9 ∷ []) ++ h ++ (9 ∷ []) ++ i ++ (10 ∷ []) ≡ (x ∷ (9 ∷ (n ++ (9 ∷ (p ++ (9 ∷ (h ++ (9 ∷ i)))))))) ++ (10 ∷ [])
wire_joined x n p h i = simp append_assoc

pub wire_is : (w : Wire) → wire_parts w ≡ wire_line w ++ (10 ∷ [])
wire_is w = wire_joined (mark_byte w.mark) (decimal w.node) (decimal w.port) (decimal w.half) (decimal w.inner)

pub wire_short : (w : Wire) → w.node < 2 ^ 8 → w.port < 2 ^ 8 → w.half < 2 ^ 8 → w.inner < 2 ^ 16 → length (wire_parts w) ≤ 64
wire_short w h i j k =
    let a = narrow w.node h in
    let b = narrow w.port i in
    let d = narrow w.half j in
    let e = length-decimal-le 5 w.inner (omega arith) (omega arith) (omega arith) in
    simp length-append (omega arith)

-- the parts of the last line
abbrev pub top_parts : ℕ → ℕ → List ℕ
top_parts last macros = codes "top" ++ (9 ∷ []) ++ decimal last ++ (9 ∷ []) ++ decimal macros ++ (10 ∷ [])

top_joined : (word l m : List ℕ) → word ++ (9 ∷ []) ++ l ++ (9 ∷ []) ++ m ++ (10 ∷ []) ≡ (word ++ (9 ∷ (l ++ (9 ∷ m)))) ++ (10 ∷ [])
top_joined word l m = simp append_assoc

pub top_is : (last macros : ℕ) → top_parts last macros ≡ top_line last macros ++ (10 ∷ [])
top_is last macros = top_joined (codes "top") (decimal last) (decimal macros)

pub top_short : (last macros : ℕ) → last < 2 ^ 8 → macros < 2 ^ 64 → length (top_parts last macros) ≤ 64
top_short last macros h k =
    let a = narrow last h in
    let b = length-decimal-le 20 macros (omega arith) (omega arith) k in
    simp length-append (omega arith)
