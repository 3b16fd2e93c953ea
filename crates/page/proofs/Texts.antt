-- A text that is laid is measured, or written.
use Rattle.std.proofs.Common.{◌≡◌, ℕ, ◌≤◌, List, [], ◌++◌, length, drop, Some, None, Ok, Err, Option, Result, sym, refl, ap, ◌∙◌, subst₂, arith}
use Rattle.page.specs.declared.cursor.Cursor.{Cursor}
use Rattle.page.specs.declared.faults.RoomFault.{RoomFault}
use Rattle.page.specs.declared.faults.RoomFault.TheVariants.{NoRoom}
use Rattle.page.specs.Cursors.{Lays}
use Rattle.page.specs.Pages.{Page, Within, max_size}
use Rattle.page.specs.Texts.{Sole, Measured, Written}
use Rattle.page.proofs.Pages.{page_none, page_size, page_short, page_front}

-- what is laid at the start of a buffer
page_laid : {Says : List ℕ → Type 0} (old : List ℕ) (start end : Cursor) → start.out.now ≡ old → start.end ≡ Some 0 → Lays start Says end → (bs : List ℕ) × Says bs × Page old end.out.now bs end.end
page_laid old start end buffer here (same, (bs, says, laid)) =
    (bs, says, laid.adds old [] (subst₂ (λ (now : List ℕ) (at : Option ℕ). Page old now [] at) (sym buffer) (sym here) (page_none old)))

-- a text that is laid without a buffer is measured
pub laid_measured : {Says : List ℕ → Type 0} (room : ℕ) (start end : Cursor) (r : Option ℕ) → room ≤ max_size → start.out.now ≡ [] → start.end ≡ Some 0 → Lays start Says end → Within end.end room r → Measured Says room r
laid_measured room start end (Some n) most buffer here laid (is, fits) =
    let (bs, says, page) = page_laid [] start end buffer here laid in
    (bs, says, page_size n page is, fits)
laid_measured room start end None most buffer here laid over =
    let (bs, says, page) = page_laid [] start end buffer here laid in
    (bs, says, page_short room page over most)

-- one that has room, and is laid in the buffer, is written
pub laid_written : {Says : List ℕ → Type 0} (old : List ℕ) {new : List ℕ} (n : ℕ) (start end : Cursor) → Sole Says → length old ≤ max_size → Measured Says (length old) (Some n) → start.out.now ≡ old → start.end ≡ Some 0 → Lays start Says end → new ≡ end.out.now → Written Says old new (Ok n)
laid_written old n start end sole most (bs, says, size, room) buffer here laid is =
    let (cs, says', page) = page_laid old start end buffer here laid in
    let whole : n ≡ length cs = size ∙ ap length (sole bs cs says says') in
    (cs, says', whole, room, is ∙ page_front n page whole room most)

-- no two answers to one text would do
pub written_sole : {Says : List ℕ → Type 0} (old new new' : List ℕ) (r r' : Result ℕ RoomFault) → Sole Says → Written Says old new r → Written Says old new' r' → (new' ≡ new) × (r' ≡ r)
written_sole old new new' (Ok n) (Ok n') sole (bs, says, size, room, is) (cs, says', size', room', is') =
    let same = sole cs bs says' says in
    let sizes = size' ∙ ap length same ∙ sym size in
    (is' ∙ (λ i. same i ++ drop (sizes i) old) ∙ sym is, ap Ok sizes)
written_sole old new new' (Ok n) (Err NoRoom) sole (bs, says, size, room, is) (cs, says', over, is') =
    absurd (omega (arith, size, room, over, ap length (sole cs bs says' says)))
written_sole old new new' (Err NoRoom) (Ok n') sole (bs, says, over, is) (cs, says', size', room', is') =
    absurd (omega (arith, size', room', over, ap length (sole cs bs says' says)))
written_sole old new new' (Err NoRoom) (Err NoRoom) sole (bs, says, over, is) (cs, says', over', is') = (is' ∙ sym is, refl)
