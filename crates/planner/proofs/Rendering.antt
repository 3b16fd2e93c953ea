-- The lines of a listing as they are made up, part by part.
use Rattle.std.proofs.Common.{◌≡◌, ℕ, ◌^◌, ◌<◌, ◌≤◌, List, [], ◌∷◌, ◌++◌, length, codes, decimal, ap, ◌∙◌, append_assoc, arith, length-append}
use Rattle.std.proofs.lemmas.Fmt.{length-decimal-le}
use Rattle.node_line.specs.Lines.{letter_byte}
use Rattle.word.specs.declared.Letter.{Letter}
use Rattle.planner.specs.Listings.{top_row, kind_row, short_row}

-- the parts of the first line, as they are added
abbrev pub top_parts : ℕ → ℕ → ℕ → ℕ → ℕ → List ℕ
top_parts letter reads writes depth macros =
    codes "top\t" ++ (letter ∷ []) ++ (9 ∷ []) ++ decimal reads ++ (9 ∷ []) ++ decimal writes ++ (9 ∷ []) ++ decimal depth ++ (9 ∷ []) ++ decimal macros ++ (10 ∷ [])

top_joined : (x : ℕ) (a b c d : List ℕ) → codes "top\t" ++ (x ∷ []) ++ (9 ∷ []) ++ a ++ (9 ∷ []) ++ b ++ (9 ∷ []) ++ c ++ (9 ∷ []) ++ d ++ (10 ∷ []) ≡ (codes "top" ++ (9 ∷ (x ∷ (9 ∷ (a ++ (9 ∷ (b ++ (9 ∷ (c ++ (9 ∷ d)))))))))) ++ (10 ∷ [])
top_joined x a b c d = simp append_assoc

-- they make up the line
pub top_parts_are : (letter : Letter) (x reads writes depth macros : ℕ) → x ≡ letter_byte letter → top_parts x reads writes depth macros ≡ top_row letter reads writes depth macros ++ (10 ∷ [])
top_parts_are letter x reads writes depth macros e =
    ap (λ (b : ℕ). top_parts b reads writes depth macros) e ∙ top_joined (letter_byte letter) (decimal reads) (decimal writes) (decimal depth) (decimal macros)

-- and have room in a line buffer
pub top_parts_short : (x reads writes depth macros : ℕ) → reads < 2 ^ 8 → writes < 2 ^ 8 → depth < 2 ^ 32 → macros < 2 ^ 64 → length (top_parts x reads writes depth macros) ≤ 64
top_parts_short x reads writes depth macros h k l m =
    let a = length-decimal-le 3 reads (omega arith) (omega (arith, h)) (omega (arith, h)) in
    let b = length-decimal-le 3 writes (omega arith) (omega (arith, k)) (omega (arith, k)) in
    let c = length-decimal-le 10 depth (omega arith) (omega (arith, l)) (omega (arith, l)) in
    let d = length-decimal-le 20 macros (omega arith) (omega (arith, m)) (omega (arith, m)) in
    simp length-append (omega arith)

-- the parts of the line of a kind, as they are added
abbrev pub kind_parts : ℕ → ℕ → ℕ → List ℕ
kind_parts kind wanted there = codes "kind\t" ++ decimal kind ++ (9 ∷ []) ++ decimal wanted ++ (9 ∷ []) ++ decimal there ++ (10 ∷ [])

kind_joined : (a b c : List ℕ) → codes "kind\t" ++ a ++ (9 ∷ []) ++ b ++ (9 ∷ []) ++ c ++ (10 ∷ []) ≡ (codes "kind" ++ (9 ∷ (a ++ (9 ∷ (b ++ (9 ∷ c)))))) ++ (10 ∷ [])
kind_joined a b c = simp append_assoc

-- they make up the line
pub kind_parts_are : (kind wanted there : ℕ) → kind_parts kind wanted there ≡ kind_row kind wanted there ++ (10 ∷ [])
kind_parts_are kind wanted there = kind_joined (decimal kind) (decimal wanted) (decimal there)

-- and have room in a line buffer
pub kind_parts_short : (kind wanted there : ℕ) → kind < 2 ^ 8 → wanted < 2 ^ 64 → there < 2 ^ 16 → length (kind_parts kind wanted there) ≤ 64
kind_parts_short kind wanted there h k l =
    let a = length-decimal-le 3 kind (omega arith) (omega (arith, h)) (omega (arith, h)) in
    let b = length-decimal-le 20 wanted (omega arith) (omega (arith, k)) (omega (arith, k)) in
    let c = length-decimal-le 5 there (omega arith) (omega (arith, l)) (omega (arith, l)) in
    simp length-append (omega arith)

-- the parts of the line of what is short, as they are added
abbrev pub short_parts : ℕ → ℕ → List ℕ
short_parts kind missing = codes "short\t" ++ decimal kind ++ (9 ∷ []) ++ decimal missing ++ (10 ∷ [])

short_joined : (a b : List ℕ) → codes "short\t" ++ a ++ (9 ∷ []) ++ b ++ (10 ∷ []) ≡ (codes "short" ++ (9 ∷ (a ++ (9 ∷ b)))) ++ (10 ∷ [])
short_joined a b = simp append_assoc

-- they make up the line
pub short_parts_are : (kind missing : ℕ) → short_parts kind missing ≡ short_row kind missing ++ (10 ∷ [])
short_parts_are kind missing = short_joined (decimal kind) (decimal missing)

-- and have room in a line buffer
pub short_parts_short : (kind missing : ℕ) → kind < 2 ^ 8 → missing < 2 ^ 64 → length (short_parts kind missing) ≤ 64
short_parts_short kind missing h k =
    let a = length-decimal-le 3 kind (omega arith) (omega (arith, h)) (omega (arith, h)) in
    let b = length-decimal-le 20 missing (omega arith) (omega (arith, k)) (omega (arith, k)) in
    simp length-append (omega arith)
