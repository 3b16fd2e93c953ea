-- A fault's line as it is made up, part by part.
use Rattle.std.proofs.Common.{◌≡◌, ℕ, ◌^◌, ◌<◌, ◌≤◌, List, [], ◌∷◌, ◌++◌, length, codes, decimal, append_assoc, arith, lit≤, length-append}
use Rattle.std.proofs.lemmas.Fmt.{length-decimal-le}
use Rattle.fault_line.specs.declared.Part.{Part}
use Rattle.fault_line.specs.declared.Part.TheVariants.{Plan, Stock, Netlist}
use Rattle.fault_line.specs.Lines.{part_name}

-- the parts, as they are added
abbrev pub fault_parts : List ℕ → ℕ → ℕ → List ℕ
fault_parts name number place = codes "fault\t" ++ name ++ (9 ∷ []) ++ decimal number ++ (9 ∷ []) ++ decimal place ++ (10 ∷ [])

-- they make up the line
pub fault_parts_are : (a b c : List ℕ) → codes "fault\t" ++ a ++ (9 ∷ []) ++ b ++ (9 ∷ []) ++ c ++ (10 ∷ []) ≡ (codes "fault" ++ (9 ∷ (a ++ (9 ∷ (b ++ (9 ∷ c)))))) ++ (10 ∷ [])
fault_parts_are a b c = simp append_assoc

name_short : (part : Part) → length (part_name part) ≤ 7
name_short Plan = lit≤ tt
name_short Stock = lit≤ tt
name_short Netlist = lit≤ tt

-- and have room in a line buffer
pub fault_parts_short : (part : Part) (number place : ℕ) → number < 2 ^ 8 → place < 2 ^ 64 → length (fault_parts (part_name part) number place) ≤ 64
fault_parts_short part number place h k =
    let n = name_short part in
    let a = length-decimal-le 3 number (omega arith) (omega (arith, h)) (omega (arith, h)) in
    let b = length-decimal-le 20 place (omega arith) (omega (arith, k)) (omega (arith, k)) in
    simp length-append (omega arith)
