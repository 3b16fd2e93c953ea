-- The line of an entry in range determines the entry, and holds no end of line.
use Rattle.std.proofs.Common.{◌≡◌, codes, decimal, refl, arith}
use Rattle.std.specs.Str.Iter.{LacksByte}
use Rattle.std.proofs.lemmas.Fmt.{decimal_injective}
use Rattle.text.proofs.Cuts.{free_by_test, free_decimal, free_then, lacks_from_free}
use Rattle.stock.specs.declared.line.Entry.{Entry}
use Rattle.stock.specs.Lines.{InRange, entry_line}
use Rattle.stock.proofs.Rows.{entry_formed, same_row}

-- entries in range with one line are one entry
pub same_entry : (e f : Entry) → InRange e → InRange f → entry_line e ≡ entry_line f → e ≡ f
same_entry e f h k is =
    let p = same_row (entry_formed e h refl) (entry_formed f k is) in
    let kind = decimal_injective e.kind f.kind (omega arith) (omega arith) p.0 in
    let count = decimal_injective e.count f.count (omega arith) (omega arith) p.1 in
    λ i. record { kind = kind i; count = count i }

-- the line of an entry in range lacks byte 10
pub line_lacks : (e : Entry) → InRange e → LacksByte 10 (entry_line e)
line_lacks e h =
    lacks_from_free 10 (entry_line e)
    (free_then (codes "stock") _ (free_by_test 10 (codes "stock") refl)
    (free_then (decimal e.kind) _ (free_decimal _) (free_decimal _)))
