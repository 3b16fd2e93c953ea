-- A text grows piece by piece.
use Rattle.std.proofs.Common.{◌≡◌, ℕ, ◌<◌, ◌≤◌, List, [], ◌++◌, length, take, drop, Some, None, Option, sym, refl, ap, ◌∙◌, subst, inl, inr, append_assoc, append-nil, arith, length-append}
use Rattle.std.proofs.lemmas.List.{take_at}
use Rattle.std.proofs.lemmas.Slice.{drop-append-drop}
use Rattle.std.proofs.lemmas.Bool.{cases_lt}
use Rattle.text.proofs.Puts.{put_length}
use Rattle.page.specs.Pages.{Appended, Extends, Within, Page, sized, endless, max_size}

-- nothing written yet
pub page_none : (old : List ℕ) → Page old old [] (Some 0)
page_none old = sized refl refl (λ _. refl)

-- a buffer keeps its length
appended_length : (mid new bs : List ℕ) (at end : ℕ) → Appended mid new (Some at) bs (Some end) → length new ≡ length mid
appended_length mid new bs at end a =
    elim (cases_lt (length mid) end) [
      | inl over ↦ ap length (a.2 over)
      | inr room ↦ put_length (record { ends = a.0; room = room; is = a.1 room })
    ]

-- where there is no end, none follows
no_end : {end : ℕ} → Some end ≡ None → ⊥
no_end e = let z : ◌≡◌ {A = ℕ} 0 1 = cc in omega arith

-- one piece more
pub page_then : {old mid new text : List ℕ} (bs : List ℕ) {at : Option ℕ} (r : Option ℕ) → Page old mid text at → Appended mid new at bs r → Page old new (text ++ bs) r
page_then {text = text} bs None (endless long same) a = endless (omega (arith, long, length-append text bs)) (ap length a.1 ∙ same)
page_then bs (Some end) (endless long same) a = absurd (no_end a.0)
page_then {text = text} bs None (sized is same put) a = endless (omega (arith, is, a.0, length-append text bs)) (ap length a.1 ∙ same)
page_then {old} {mid} {new} {text} bs (Some end) (sized {size} is same put) a =
    sized
    (omega (arith, is, a.0, length-append text bs))
    (appended_length mid new bs size end a ∙ same)
    (λ room.
    let front = put (omega (arith, a.0, room)) in
    a.1 (omega (arith, same, room))
    ∙ (λ i. (ap (take size) front ∙ take_at text (drop size old) size (sym is)) i ++ (bs ++ (ap (drop end) front ∙ drop-append-drop size old text end (omega (arith, a.0)) (sym is)) i))
    ∙ sym (append_assoc text bs (drop end old)))

-- a piece extends any text
pub extends_by : {old new : List ℕ} (bs : List ℕ) {at : Option ℕ} (r : Option ℕ) → Appended old new at bs r → Extends old new at bs r
extends_by bs r a = record { adds = λ was text p. page_then bs r p a }

-- the same text in other words
pub page_is : {old new text other : List ℕ} {at : Option ℕ} → text ≡ other → Page old new text at → Page old new other at
page_is {old} {new} {at = at} e p = subst (λ t. Page old new t at) e p

-- the size of a text that is measured
pub page_size : {old new text : List ℕ} {size : Option ℕ} (n : ℕ) → Page old new text size → size ≡ Some n → n ≡ length text
page_size n (sized is same put) e = let f : ◌≡◌ {A = ℕ} _ n = cc in sym f ∙ is
page_size n (endless long same) e = absurd (no_end (sym e))

-- a text that is not within the room is longer
pub page_short : {old new text : List ℕ} {size : Option ℕ} (room : ℕ) → Page old new text size → Within size room None → room ≤ max_size → room < length text
page_short room (sized is same put) w most = omega (arith, is, w)
page_short room (endless long same) w most = omega (arith, long, most)

-- a text that has room is at the front
pub page_front : {old new text : List ℕ} {size : Option ℕ} (n : ℕ) → Page old new text size → n ≡ length text → n ≤ length old → length old ≤ max_size → new ≡ text ++ drop n old
page_front {old} {new} {text} n (sized is same put) e room most =
    let f = put (omega (arith, is, e, room)) in
    f ∙ ap (λ (k : ℕ). text ++ drop k old) (is ∙ sym e)
page_front n (endless long same) e room most = absurd (omega (arith, long, e, room, most))

-- one extension after another
pub extends_then : {old mid new bs cs : List ℕ} {at m r : Option ℕ} → Extends old mid at bs m → Extends mid new m cs r → Extends old new at (bs ++ cs) r
extends_then {bs = bs} {cs} e f = record { adds = λ was text p. page_is (append_assoc text bs cs) (f.adds was (text ++ bs) (e.adds was text p)) }

-- the same pieces in other words
pub extends_is : {old new bs cs : List ℕ} {at r : Option ℕ} → bs ≡ cs → Extends old new at bs r → Extends old new at cs r
extends_is {old} {new} {at = at} {r} e x = subst (λ t. Extends old new at t r) e x

-- nothing more
pub extends_none : {old : List ℕ} {at : Option ℕ} → Extends old old at [] at
extends_none = record { adds = λ was text p. page_is (sym (append-nil text)) p }
