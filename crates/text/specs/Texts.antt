-- The lines of a text.
use Rattle.std.specs.Prelude.{◌≡◌, ℕ, ◌+◌, ◌<◌, ◌≤◌, ◌⊎◌, List, [], ◌∷◌, ◌++◌, length, Some, None, Option, Ok, Err, Result}
use Rattle.std.specs.Borrow.{Bor}
use Rattle.std.specs.Str.Iter.{LacksByte}
use Rattle.text.specs.declared.faults.LineFault.{LineFault}
use Rattle.text.specs.declared.faults.LineFault.TheVariants.{Malformed}
use Rattle.text.specs.declared.text_lines.TextLines.{TextLines}
use Rattle.text.specs.Faults.{max_bytes}

-- the lines of a text from the first on, or none where it is too long
abbrev pub LinesOf : List ℕ → Option TextLines → Type 0
LinesOf text (Some s) = (length text ≤ max_bytes) × (s.left.now ≡ text) × (s.number ≡ 1)
LinesOf text None = max_bytes < length text

-- what comes next of the lines s, after which t are to come: a line (byte 10 ends it), a line without an end,
-- after which there are no more, or nothing where nothing is left
abbrev pub LineComes : TextLines → Option (ℕ × Result (Bor (List ℕ)) LineFault) → TextLines → Type 0
LineComes s (Some (n, Ok line)) t =
    (n ≡ s.number) × (t.number ≡ s.number + 1) × (s.left.now ≡ line.now ++ (10 ∷ t.left.now)) × LacksByte 10 line.now
LineComes s (Some (n, Err f)) t =
    (n ≡ s.number) × (f ≡ Malformed) × (0 < length s.left.now) × LacksByte 10 s.left.now × (t.left.now ≡ [])
LineComes s None t = (s.left.now ≡ []) × (t ≡ s)

-- rest begins with this line and its end
abbrev pub Begins : List ℕ → List ℕ → Type 0
Begins rest line = ((more : List ℕ) × (rest ≡ line ++ (10 ∷ more))) × LacksByte 10 line

-- the first line of rest is refused by itself, as a format reads its lines, or rest is a line without an end
abbrev pub LineFails : {X : Type 0} → (List ℕ → Result X LineFault → Type 0) → List ℕ → LineFault → Type 0
LineFails Read rest f = ((line : List ℕ) × Begins rest line × Read line (Err f)) ⊎ ((f ≡ Malformed) × (0 < length rest) × LacksByte 10 rest)

-- what comes of a line, as a format reads its lines and makes a fault of the line's number and its own; a line
-- without an end comes as its fault
abbrev pub LineTold : {X F : Type 0} → (List ℕ → Result X LineFault → Type 0) → (ℕ → LineFault → F) → ℕ → Result (Bor (List ℕ)) LineFault → Result X F → Type 0
LineTold Read at n (Ok line) (Ok x) = Read line.now (Ok x)
LineTold Read at n (Ok line) (Err g) = (f : LineFault) × (g ≡ at n f) × Read line.now (Err f)
LineTold Read at n (Err f) (Ok x) = ⊥
LineTold Read at n (Err f) (Err g) = g ≡ at n f
