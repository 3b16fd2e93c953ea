-- Reading has one answer to any text: the entries that are read leave no choice, nor does what comes after them.
use Rattle.std.proofs.Common.{◌≡◌, ℕ, ◌+◌, ◌<◌, ◌≤◌, List, [], ◌∷◌, ◌++◌, length, Some, None, Ok, Err, Option, Result, sym, refl, ap, ◌∙◌, subst, ⊎_elim, arith}
use Rattle.std.proofs.lemmas.Bool.{cases_lt}
use Rattle.text.specs.declared.faults.LineFault.{LineFault}
use Rattle.text.specs.declared.faults.LineFault.TheVariants.{Malformed, OutOfRange}
use Rattle.text.specs.Faults.{max_bytes}
use Rattle.text.proofs.Begins.{reason_sole}
use Rattle.text.proofs.Fronts.{Comes, ways_sole}
use Rattle.stock.specs.declared.faults.StockFault.{StockFault}
use Rattle.stock.specs.declared.faults.StockFault.TheVariants as stock
use Rattle.stock.specs.declared.line.Entry.{Entry}
use Rattle.stock.specs.declared.stock.Stock.{Stock}
use Rattle.stock.specs.Lines.{InRange, WellFormed, LineRead, entry_line}
use Rattle.stock.specs.Stocks.{Distinct, counted, in_stock, listed}
use Rattle.stock.specs.Texts.{Agree, Front, ReadSole, StockRead}
use Rattle.stock.proofs.Fronts.{line_lacks, same_entry}
use Rattle.stock.proofs.Rows.{entry_formed}
use Rattle.stock.proofs.Tables.{distinct_front}

-- a line that is refused is not that of an entry in range
refused_not_entry : (line : List ℕ) (f : LineFault) (e : Entry) → LineRead line (Err f) → LineRead line (Ok e) → ⊥
refused_not_entry line Malformed e bad (is, h) = bad (entry_formed e h is)
refused_not_entry line OutOfRange e (well, bad) (is, h) = bad (e, h, is)

-- a line is read in one way
line_sole : (line : List ℕ) (r r' : Result Entry LineFault) → LineRead line r → LineRead line r' → r ≡ r'
line_sole line (Ok e) (Ok e') (is, h) (is', k) = ap Ok (same_entry e e' h k (sym is ∙ is'))
line_sole line (Ok e) (Err f) h bad = absurd (refused_not_entry line f e bad h)
line_sole line (Err f) (Ok e) bad h = absurd (refused_not_entry line f e bad h)
line_sole line (Err f) (Err f') h h' = ap Err (reason_sole LineRead WellFormed (λ _ bad. bad) (λ _ h. h.0) line f f' h h')

-- the answer where these entries are read and this comes next
data Ends (es : List Entry) : Option (Result Entry LineFault) → Result Stock StockFault → Type 0 where
  all : {s : Stock} → 0 < length es → ((kind : ℕ) → in_stock s kind ≡ counted es kind) → Ends es None (Ok s)
  empty : length es ≡ 0 → Ends es None (Err stock.Empty)
  fails : {f : LineFault} → Ends es (Some (Err f)) (Err (stock.Line (length es + 1) f))
  again : {e : Entry} (count : ℕ) → listed es e.kind ≡ Some count → Ends es (Some (Ok e)) (Err (stock.Twice (length es + 1)))

-- there is one answer at each place
ends_sole : {es : List Entry} {o : Option (Result Entry LineFault)} {r r' : Result Stock StockFault} → Ends es o r → Ends es o r' → Agree r' r
ends_sole (all some h) (all some' h') = λ k. h' k ∙ sym (h k)
ends_sole (all some h) (empty e) = absurd (omega arith)
ends_sole (empty e) (all some h) = absurd (omega arith)
ends_sole (empty e) (empty e') = refl
ends_sole fails fails = refl
ends_sole (again c h) (again c' h') = refl

-- where an entry of a new kind comes, reading does not end
goes_on : {es : List Entry} {e : Entry} {r : Result Stock StockFault} → Ends es (Some (Ok e)) r → listed es e.kind ≡ None → ⊥
goes_on (again c h) new = let clash : ◌≡◌ {A = ℕ} 0 1 = cc in omega arith

-- an answer to a text that is not too long
record Answered (text : List ℕ) (r : Result Stock StockFault) : Type 0 where
  es : List Entry
  rest : List ℕ
  next : Option (Result Entry LineFault)
  front : Front text es rest
  comes : Comes LineRead rest next
  ends : Ends es next r

-- what reading may answer is such an answer
read_answered : (text : List ℕ) (r : Result Stock StockFault) → length text ≤ max_bytes → StockRead text r → Answered text r
read_answered text (Ok s) short (es, front, some, holds) =
    record { es = es; rest = []; next = None; front = front; comes = refl; ends = all some holds }
read_answered text (Err stock.TooLong) short long = absurd (omega arith)
read_answered text (Err (stock.Line line f)) short (es, rest, front, at, h) =
    record { es = es; rest = rest; next = Some (Err f); front = front; comes = h; ends = rw at fails }
read_answered text (Err (stock.Twice line)) short (es, rest, front, at, (e, h, (count, is))) =
    record { es = es; rest = rest; next = Some (Ok e); front = front; comes = h; ends = rw at (again count is) }
read_answered text (Err stock.Empty) short is =
    record { es = []; rest = []; next = None; front = record { short = short; split = is; ranged = tt; distinct = tt }; comes = refl; ends = empty refl }

-- where an entry comes after the entries of an answer, another answer has not read it
stays : {text : List ℕ} {r r' : Result Stock StockFault} (a : Answered text r) (b : Answered text r') (e : Entry) (gs : List Entry) → a.next ≡ Some (Ok e) → b.es ≡ a.es ++ e ∷ gs → ⊥
stays a b e gs next is = goes_on (rw next at a.ends) (distinct_front a.es e gs (subst Distinct is b.front.distinct))

-- answers to a text that is not too long are one answer
answered_sole : {text : List ℕ} {r r' : Result Stock StockFault} → Answered text r → Answered text r' → Agree r' r
answered_sole a b =
    let p = ways_sole LineRead line_sole entry_line InRange (λ e h. (refl, h)) line_lacks a.es b.es a.rest b.rest a.next b.next a.front.split b.front.split a.front.ranged b.front.ranged a.comes b.comes (stays a b) (stays b a) in
    ends_sole a.ends (rw (← p.0, ← p.1) at b.ends)

-- a text that is too long has that answer
too_long : (text : List ℕ) (r : Result Stock StockFault) → max_bytes < length text → StockRead text r → r ≡ Err stock.TooLong
too_long text (Ok s) long (es, front, some, holds) = absurd (omega (arith, front.short))
too_long text (Err stock.TooLong) long h = refl
too_long text (Err (stock.Line line f)) long (es, rest, front, at, h) = absurd (omega (arith, front.short))
too_long text (Err (stock.Twice line)) long (es, rest, front, at, h) = absurd (omega (arith, front.short))
too_long text (Err stock.Empty) long is = absurd (omega (arith, ap length is))

-- equal answers agree
agree_refl : (r : Result Stock StockFault) → Agree r r
agree_refl (Ok s) = λ k. refl
agree_refl (Err f) = refl

-- what reading may answer is the one answer
pub read_sole : (text : List ℕ) (r : Result Stock StockFault) → StockRead text r → ReadSole text r
read_sole text r h r' h' =
    ⊎_elim
    (λ (long : max_bytes < length text). subst (Agree r') (too_long text r' long h' ∙ sym (too_long text r long h)) (agree_refl r'))
    (λ (short : length text ≤ max_bytes). answered_sole (read_answered text r short h) (read_answered text r' short h'))
    (cases_lt max_bytes (length text))
