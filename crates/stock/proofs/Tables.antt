-- Tables by kind, and what entries list.
use Rattle.std.proofs.Common.{◌≡◌, ℕ, zero, suc, ◌<◌, Bool, true, false, cond, eqb, leb, List, [], ◌∷◌, ◌++◌, length, get_or, set, replicate, Some, None, Option, sym, refl, ap, ◌∙◌, arith}
use Rattle.std.specs.List.{AllByRecursion}
use Rattle.std.proofs.lemmas.List.{get_or-set_same, get_or-set_other}
use Rattle.std.proofs.lemmas.Bool.{cond_both, cond-false, eqb-true, eqb-false, leb-false, ne_eqb}
use Rattle.node.specs.Limits.{max_kind}
use Rattle.stock.specs.declared.line.Entry.{Entry}
use Rattle.stock.specs.declared.stock.Stock.{Stock}
use Rattle.stock.specs.Lines.{InRange}
use Rattle.stock.specs.Stocks.{Distinct, counted, in_stock, listed, listed_in, or_zero}

-- a table of one thing has nothing else
pub same_there : (n k : ℕ) (d : Option ℕ) → get_or (replicate n d) k d ≡ d
same_there zero k d = refl
same_there (suc n) zero d = refl
same_there (suc n) (suc k) d = same_there n k d

-- a table with one place set
pub set_lists : (xs : List (Option ℕ)) (i : ℕ) (v : Option ℕ) (k : ℕ) → i < length xs → get_or (set xs i v) k None ≡ cond (eqb i k) v (get_or xs k None)
set_lists xs i v k here =
    cond_both (eqb i k) v (get_or xs k None) (λ (o : Option ℕ). get_or (set xs i v) k None ≡ o)
    (λ e. ap (λ (j : ℕ). get_or (set xs i v) j None) (sym (eqb-true i k e)) ∙ get_or-set_same xs i v None here)
    (λ e. get_or-set_other xs i k v None (λ same. eqb-false i k e (sym same)))

-- one count, or else another
abbrev or_else : Option ℕ → Option ℕ → Option ℕ
or_else (Some count) other = Some count
or_else None other = other

-- where there is none of two, there is neither
neither : (o p : Option ℕ) → or_else o p ≡ None → (o ≡ None) × (p ≡ None)
neither (Some count) p e = ((cc), (cc))
neither None p e = (refl, e)

-- a choice that gives none is not of a count
not_chosen : (b : Bool) (count : ℕ) (o : Option ℕ) → cond b (Some count) o ≡ None → (b ≡ false) × (o ≡ None)
not_chosen true count o e = ((cc), (cc))
not_chosen false count o e = (refl, e)

-- a choice that comes last where it is the only one may come first
chosen_first : (o : Option ℕ) (b : Bool) (count : ℕ) → (b ≡ true → o ≡ None) → or_else o (cond b (Some count) None) ≡ cond b (Some count) o
chosen_first None true count h = refl
chosen_first None false count h = refl
chosen_first (Some c) true count h = let e = h refl in cc
chosen_first (Some c) false count h = refl

-- what two lists of entries list, one after the other
listed_append : (es fs : List Entry) (k : ℕ) → listed (es ++ fs) k ≡ or_else (listed es k) (listed fs k)
listed_append [] fs k = refl
listed_append (e ∷ es) fs k =
    elim (eqb e.kind k) as (λ (b : Bool). cond b (Some e.count) (listed (es ++ fs) k) ≡ or_else (cond b (Some e.count) (listed es k)) (listed fs k)) [ true ↦ refl | false ↦ listed_append es fs k ]

-- and what one entry more lists, whose kind is new
pub listed_push : (es : List Entry) (e : Entry) (k : ℕ) → listed es e.kind ≡ None → listed (es ++ e ∷ []) k ≡ cond (eqb e.kind k) (Some e.count) (listed es k)
listed_push es e k new =
    listed_append es (e ∷ []) k ∙ chosen_first (listed es k) (eqb e.kind k) e.count (λ t. ap (listed es) (sym (eqb-true e.kind k t)) ∙ new)

-- tests for equal numbers, the other way round
differ : (a b : ℕ) → eqb a b ≡ false → eqb b a ≡ false
differ a b e = ne_eqb b a (λ same. eqb-false a b e (sym same))

-- entries with distinct kinds, and one more whose kind is new
pub distinct_push : (es : List Entry) (e : Entry) → Distinct es → listed es e.kind ≡ None → Distinct (es ++ e ∷ [])
distinct_push [] e h new = (refl, tt)
distinct_push (f ∷ es) e (fresh, h) new =
    let p = not_chosen (eqb f.kind e.kind) f.count (listed es e.kind) new in (
      listed_push es e f.kind p.1 ∙ ap (λ (b : Bool). cond b (Some e.count) (listed es f.kind)) (differ f.kind e.kind p.0) ∙ fresh,
      distinct_push es e h p.1,
    )

-- each of them has a kind that is new after those before it
pub distinct_front : (es : List Entry) (e : Entry) (fs : List Entry) → Distinct (es ++ (e ∷ fs)) → listed es e.kind ≡ None
distinct_front [] e fs h = refl
distinct_front (f ∷ es) e fs (fresh, h) =
    let p = neither (listed es f.kind) (listed (e ∷ fs) f.kind) (sym (listed_append es (e ∷ fs) f.kind) ∙ fresh) in
    let q = not_chosen (eqb e.kind f.kind) e.count (listed fs f.kind) p.1 in
    ap (λ (b : Bool). cond b (Some f.count) (listed es e.kind)) (differ e.kind f.kind q.0) ∙ distinct_front es e fs h

-- entries in range list no kind beyond the largest
beyond : (es : List Entry) (k : ℕ) → AllByRecursion InRange es → max_kind < k → listed es k ≡ None
beyond [] k h out = refl
beyond (e ∷ es) k (here, h) out =
    cond-false (eqb e.kind k) (Some e.count) (listed es k) (ne_eqb e.kind k (λ same. omega (arith, here.kind_high))) ∙ beyond es k h out

-- a stock whose table lists what entries do has what they count
pub has_counted : (s : Stock) (es : List Entry) → AllByRecursion InRange es → ((kind : ℕ) → listed_in s kind ≡ listed es kind) → (kind : ℕ) → in_stock s kind ≡ counted es kind
has_counted s es h table k =
    cond_both (leb k max_kind) (or_zero (listed_in s k)) 0 (λ (n : ℕ). n ≡ counted es k)
    (λ _. ap or_zero (table k))
    (λ out. sym (ap or_zero (beyond es k h (leb-false k max_kind out))))
