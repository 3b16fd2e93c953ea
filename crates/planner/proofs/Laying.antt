-- A listing is laid line by line, and told of.
use Rattle.std.proofs.Common.{◌≡◌, ℕ, zero, suc, ◌+◌, ◌-◌, ◌≤◌, List, [], ◌∷◌, ◌++◌, length, drop, Some, None, Ok, Err, Option, Result, sym, refl, ap, ◌∙◌, append_assoc, arith}
use Rattle.node.specs.declared.node.Node.{Node}
use Rattle.node.specs.declared.verdict.Top.{Top}
use Rattle.node.specs.Limits.{max_kind}
use Rattle.page.specs.declared.cursor.Cursor.{Cursor}
use Rattle.page.specs.declared.faults.RoomFault.{RoomFault}
use Rattle.page.specs.declared.faults.RoomFault.TheVariants.{NoRoom}
use Rattle.page.specs.Cursors.{Grows}
use Rattle.page.proofs.Cursors.{grows_then, grows_is}
use Rattle.stock.specs.declared.stock.Stock.{Stock}
use Rattle.stock.specs.Needs.{Shortage}
use Rattle.stock.proofs.Counts.{shortage_sole}
use Rattle.planner.specs.declared.listing.Planned.{Planned}
use Rattle.planner.specs.Listings.{Listed, ListedSole, kind_part, kinds_text, listing, top_line, verdict_line}

-- the lines of one kind more
pub kinds_more : (ns : List Node) (s : Stock) (kind : ℕ) → 1 ≤ kind → kinds_text ns s (kind - 1) ++ kind_part ns s kind ≡ kinds_text ns s (kind + 1 - 1)
kinds_more ns s zero low = absurd (omega arith)
kinds_more ns s (suc below) low =
    let before : suc below - 1 ≡ below = omega arith in
    let after : suc below ≡ suc below + 1 - 1 = omega arith in
    ap (λ (k : ℕ). kinds_text ns s k ++ kind_part ns s (suc below)) before ∙ ap (kinds_text ns s) after

-- the first line, the lines of the kinds and the last line make up the listing
pub lines_laid : (ns : List Node) (t : Top) (s : Stock) (short : Option (ℕ × ℕ)) {start first last end : Cursor} → Grows start (top_line t ++ (10 ∷ [])) first → Grows first (kinds_text ns s max_kind) last → Grows last (verdict_line short ++ (10 ∷ [])) end → Grows start (listing ns t s short) end
lines_laid ns t s short top kinds verdict =
    grows_is (sym (append_assoc (top_line t ++ (10 ∷ []) ++ kinds_text ns s max_kind) (verdict_line short) (10 ∷ []))) (grows_then (grows_then top kinds) verdict)

-- one shortage is told, so one listing
same_size : (ns : List Node) (t : Top) (s : Stock) (p q : Option (ℕ × ℕ)) → Shortage ns s p → Shortage ns s q → length (listing ns t s q) ≡ length (listing ns t s p)
same_size ns t s p q h k = ap (λ (short : Option (ℕ × ℕ)). length (listing ns t s short)) (shortage_sole ns s p q h k)

-- no two answers would do (`written_sole` says nothing of what is short, and to add it takes more cases)
pub listed_sole : (ns : List Node) (top : Option Top) (s : Stock) (old new : List ℕ) (r : Result Planned RoomFault) → Listed ns top s old new r → ListedSole ns top s old new r
listed_sole ns (Some t) s old new (Ok p) (least, size, room, is) new' (Ok q) (least', size', room', is') =
    let short = shortage_sole ns s p.short q.short least least' in
    let same : q.size ≡ p.size = size' ∙ same_size ns t s p.short q.short least least' ∙ sym size in
    (is' ∙ (λ i. listing ns t s (short i) ++ drop (same i) old) ∙ sym is, λ i. Ok (record { size = same i; short = short i }))
listed_sole ns (Some t) s old new (Ok p) (least, size, room, is) new' (Err NoRoom) (short, least', over, is') =
    absurd (omega (arith, size, room, over, same_size ns t s p.short short least least'))
listed_sole ns (Some t) s old new (Err NoRoom) (short, least, over, is) new' (Ok q) (least', size', room', is') =
    absurd (omega (arith, size', room', over, same_size ns t s short q.short least least'))
listed_sole ns (Some t) s old new (Err NoRoom) (short, least, over, is) new' (Err NoRoom) (short', least', over', is') = (is' ∙ sym is, refl)
listed_sole ns None s old new (Ok p) (short, size, is) new' (Ok q) (short', size', is') =
    (is' ∙ sym is, λ i. Ok (record { size = (size' ∙ sym size) i; short = (short' ∙ sym short) i }))
listed_sole ns None s old new (Ok p) h new' (Err NoRoom) k = absurd k
listed_sole ns None s old new (Err NoRoom) h new' r k = absurd h
