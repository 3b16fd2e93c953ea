-- A text of lines, one for each item: where lines are read in one way, the text leaves no choice of the items.
use Rattle.std.proofs.Common.{◌≡◌, ℕ, ◌⊎◌, List, [], ◌∷◌, ◌++◌, length, Some, None, Ok, Err, Option, Result, sym, refl, ap, ◌∙◌, subst, inl, inr, append_assoc, append-nil, arith}
use Rattle.std.specs.List.{flat_map, AllByRecursion}
use Rattle.std.specs.Str.Iter.{LacksByte}
use Rattle.std.proofs.ByRecursion.{All-drop}
use Rattle.std.proofs.lemmas.List.{flat_map_more}
use Rattle.std.proofs.lemmas.List.Prefix.{front_rest}
use Rattle.text.specs.declared.faults.LineFault.{LineFault}
use Rattle.text.specs.Texts.{Begins, LineFails}
use Rattle.text.proofs.Begins.{begins_ended, begins_some, begins_sole, fails_sole}
use Rattle.text.proofs.Cuts.{same_cut}

module _ {X : Type 0} (line : X → List ℕ) where
  -- the lines of the items, each with its end (byte 10)
  abbrev pub lines_of : List X → List ℕ
  lines_of xs = flat_map (λ x. line x ++ (10 ∷ [])) xs

  -- one line, and what follows it
  pub text_cons : (x : X) (xs : List X) (rest : List ℕ) → lines_of (x ∷ xs) ++ rest ≡ line x ++ (10 ∷ (lines_of xs ++ rest))
  text_cons x xs rest = append_assoc (line x ++ (10 ∷ [])) (lines_of xs) rest ∙ append_assoc (line x) (10 ∷ []) (lines_of xs ++ rest)

  -- the text of one item more
  pub text_push : (xs : List X) (x : X) (rest : List ℕ) → lines_of (xs ++ x ∷ []) ++ rest ≡ lines_of xs ++ (line x ++ (10 ∷ rest))
  text_push xs x rest =
      ap (λ t. t ++ rest) (sym (flat_map_more (λ y. line y ++ (10 ∷ [])) [] xs x))
      ∙ append_assoc (lines_of xs) (line x ++ (10 ∷ [])) rest
      ∙ ap (λ t. lines_of xs ++ t) (append_assoc (line x) (10 ∷ []) rest)

  -- what follows the items ys is the text of more items, up to xs, and then what follows xs
  abbrev pub GoesOn : List X → List ℕ → List X → List ℕ → Type 0
  GoesOn xs rest ys rest' = (zs : List X) × (xs ≡ ys ++ zs) × (rest' ≡ lines_of zs ++ rest)

-- what comes next in a rest, as a format reads its lines: nothing, the line of an item, or a line that is refused
abbrev pub Comes : {X : Type 0} → (List ℕ → Result X LineFault → Type 0) → List ℕ → Option (Result X LineFault) → Type 0
Comes Read rest None = rest ≡ []
Comes Read rest (Some (Ok x)) = (line : List ℕ) × Begins rest line × Read line (Ok x)
Comes Read rest (Some (Err f)) = LineFails Read rest f

module _ {X : Type 0} (Read : List ℕ → Result X LineFault → Type 0) (sole : (line : List ℕ) (r r' : Result X LineFault) → Read line r → Read line r' → r ≡ r') where
  -- nothing else comes in an empty rest
  comes_none : (rest : List ℕ) (o : Option (Result X LineFault)) → rest ≡ [] → Comes Read rest o → o ≡ None
  comes_none rest None e h = refl
  comes_none rest (Some (Ok x)) e (line, begins, read) = absurd (omega (arith, ap length e, begins_some line begins))
  comes_none rest (Some (Err f)) e (inl (line, begins, refused)) = absurd (omega (arith, ap length e, begins_some line begins))
  comes_none rest (Some (Err f)) e (inr (is, some, lacks)) = absurd (omega (arith, ap length e))

  -- a rest that fails does not begin with the line of an item
  fails_not_item : (rest : List ℕ) (f : LineFault) (x : X) → LineFails Read rest f → Comes Read rest (Some (Ok x)) → ⊥
  fails_not_item rest f x (inl (line, begins, refused)) (line', begins', read) =
      let e = sole line (Err f) (Ok x) refused (subst (λ (l : List ℕ). Read l (Ok x)) (begins_sole begins' begins) read) in
      cc
  fails_not_item rest f x (inr (is, some, lacks)) (line, begins, read) = begins_ended line begins lacks

  -- a line is refused for one reason
  refused_sole : (line : List ℕ) (f g : LineFault) → Read line (Err f) → Read line (Err g) → f ≡ g
  refused_sole line f g h k = let e = sole line (Err f) (Err g) h k in cc

  -- one thing comes next in a rest
  comes_sole : (rest : List ℕ) (o o' : Option (Result X LineFault)) → Comes Read rest o → Comes Read rest o' → o ≡ o'
  comes_sole rest None o' h h' = sym (comes_none rest o' h h')
  comes_sole rest (Some (Ok x)) None h h' = comes_none rest (Some (Ok x)) h' h
  comes_sole rest (Some (Ok x)) (Some (Ok y)) (line, begins, read) (line', begins', read') =
      ap Some (sole line (Ok x) (Ok y) read (subst (λ (l : List ℕ). Read l (Ok y)) (begins_sole begins' begins) read'))
  comes_sole rest (Some (Ok x)) (Some (Err f)) h h' = absurd (fails_not_item rest f x h' h)
  comes_sole rest (Some (Err f)) None h h' = comes_none rest (Some (Err f)) h' h
  comes_sole rest (Some (Err f)) (Some (Ok x)) h h' = absurd (fails_not_item rest f x h h')
  comes_sole rest (Some (Err f)) (Some (Err g)) h h' = ap (λ (k : LineFault). Some (Err k)) (fails_sole Read refused_sole rest f g h h')

  module _ (line : X → List ℕ) (Ranged : X → Type 0) (reads : (x : X) → Ranged x → Read (line x) (Ok x)) (lacks : (x : X) → Ranged x → LacksByte 10 (line x)) where
    -- items in range with one line are one item
    same_item : (x y : X) → Ranged x → Ranged y → line x ≡ line y → x ≡ y
    same_item x y h k is =
        let e = sole (line x) (Ok x) (Ok y) (reads x h) (subst (λ (l : List ℕ). Read l (Ok y)) (sym is) (reads y k)) in
        cc

    -- of two ways to read items off the front of a text, one goes on from the other
    fronts : (xs ys : List X) (rest rest' : List ℕ) → AllByRecursion Ranged xs → AllByRecursion Ranged ys → lines_of line xs ++ rest ≡ lines_of line ys ++ rest' → GoesOn line xs rest ys rest' ⊎ GoesOn line ys rest' xs rest
    fronts xs [] rest rest' h k e = inl (xs, refl, sym e)
    fronts [] (y ∷ ys) rest rest' h k e = inr (y ∷ ys, refl, e)
    fronts (x ∷ xs) (y ∷ ys) rest rest' h k e =
        let p = same_cut 10 (line x) (line y) (lines_of line xs ++ rest) (lines_of line ys ++ rest') (sym (text_cons line x xs rest) ∙ e ∙ text_cons line y ys rest') (lacks x h.0) (lacks y k.0) in
        let same = same_item x y h.0 k.0 p.0 in
        elim (fronts xs ys rest rest' h.1 k.1 p.1) [
          | inl (zs, is, left) ↦ inl (zs, (λ i. same i ∷ is i), left)
          | inr (zs, is, left) ↦ inr (zs, (λ i. sym same i ∷ is i), left)
        ]

    -- a way that goes on from another is that one, where the other does not go on
    goes_no_further : (xs ys : List X) (rest rest' : List ℕ) (o o' : Option (Result X LineFault)) → AllByRecursion Ranged ys → Comes Read rest o → Comes Read rest' o' → ((x : X) (zs : List X) → o ≡ Some (Ok x) → ys ≡ xs ++ x ∷ zs → ⊥) → GoesOn line ys rest' xs rest → (xs ≡ ys) × (o ≡ o')
    goes_no_further xs ys rest rest' o o' k h h' ends ([], is, left) =
        (sym (is ∙ append-nil xs), comes_sole rest o o' h (subst (λ (t : List ℕ). Comes Read t o') (sym left) h'))
    goes_no_further xs ys rest rest' o o' k h h' ends (z ∷ zs, is, left) =
        let ranged : Ranged z = (subst (AllByRecursion Ranged) (front_rest ys xs (z ∷ zs) is) (All-drop Ranged (length xs) ys k)).0 in
        let next : Comes Read rest (Some (Ok z)) = (line z, ((lines_of line zs ++ rest', left ∙ text_cons line z zs rest'), lacks z ranged), reads z ranged) in
        absurd (ends z zs (comes_sole rest o (Some (Ok z)) h next) is)

    -- two ways to read items off the front of a text that do not go on are one, and the same comes next
    pub ways_sole : {text : List ℕ} (xs ys : List X) (rest rest' : List ℕ) (o o' : Option (Result X LineFault)) → text ≡ lines_of line xs ++ rest → text ≡ lines_of line ys ++ rest' → AllByRecursion Ranged xs → AllByRecursion Ranged ys → Comes Read rest o → Comes Read rest' o' → ((x : X) (zs : List X) → o ≡ Some (Ok x) → ys ≡ xs ++ x ∷ zs → ⊥) → ((x : X) (zs : List X) → o' ≡ Some (Ok x) → xs ≡ ys ++ x ∷ zs → ⊥) → (xs ≡ ys) × (o ≡ o')
    ways_sole xs ys rest rest' o o' split split' ranged ranged' h h' ends ends' =
        elim (fronts xs ys rest rest' ranged ranged' (sym split ∙ split')) [
          | inl on ↦ let p = goes_no_further ys xs rest' rest o' o ranged h' h ends' on in (sym p.0, sym p.1)
          | inr on ↦ goes_no_further xs ys rest rest' o o' ranged' h h' ends on
        ]
