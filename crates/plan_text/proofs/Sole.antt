-- Reading has one answer to any text and buffer: the nodes that are read leave no choice, nor does what comes after them.
use Rattle.std.proofs.Common.{◌≡◌, ℕ, ◌+◌, ◌<◌, ◌≤◌, List, [], ◌∷◌, ◌++◌, length, drop, Some, None, Ok, Err, Option, Result, sym, refl, ap, ◌∙◌, subst, inl, inr, ⊎_elim, arith, length-append}
use Rattle.std.proofs.lemmas.Bool.{cases_lt}
use Rattle.text.specs.declared.faults.LineFault.{LineFault}
use Rattle.text.specs.declared.faults.LineFault.TheVariants.{Malformed, OutOfRange}
use Rattle.text.specs.Faults.{max_bytes}
use Rattle.text.proofs.Begins.{reason_sole}
use Rattle.text.proofs.Fronts.{Comes, ways_sole}
use Rattle.node.specs.declared.node.Node.{Node}
use Rattle.node.specs.declared.node.Node.TheVariants as node
use Rattle.node_line.specs.Lines.{line_of, NodeInRange, WellFormed, NodeLine}
use Rattle.node_line.specs.Reading.{LineRead}
use Rattle.node_line.proofs.Rows.{macro_row}
use Rattle.plan_text.specs.declared.faults.ReadFault.{ReadFault}
use Rattle.plan_text.specs.declared.faults.ReadFault.TheVariants as reading
use Rattle.plan_text.specs.Texts.{Front, TextRead, ReadSole}
use Rattle.plan_text.proofs.Fronts.{line_lacks, same_node}

-- the line of a node in range is well formed
formed : (n : Node) → NodeInRange n → WellFormed (line_of n)
formed (node.Macro m) h = inr (_, refl, macro_row m h refl)
formed (node.Layer x) h = inl (x, refl)

-- a line that is refused is not that of a node in range
refused_not_node : (line : List ℕ) (f : LineFault) → LineRead line (Err f) → NodeLine line → ⊥
refused_not_node line Malformed bad (n, h, is) = bad (subst WellFormed (sym is) (formed n h))
refused_not_node line OutOfRange (well, bad) n = bad n

-- a line is read in one way
line_sole : (line : List ℕ) (r r' : Result Node LineFault) → LineRead line r → LineRead line r' → r ≡ r'
line_sole line (Ok n) (Ok m) (is, h) (is', k) = ap Ok (same_node n m h k (sym is ∙ is'))
line_sole line (Ok n) (Err f) (is, h) bad = absurd (refused_not_node line f bad (n, h, is))
line_sole line (Err f) (Ok n) bad (is, h) = absurd (refused_not_node line f bad (n, h, is))
line_sole line (Err f) (Err f') h h' = ap Err (reason_sole LineRead WellFormed (λ _ bad. bad) (λ _ h. h.0) line f f' h h')

-- the answer where so many nodes are read and this comes next
data Ends (room count : ℕ) : Option (Result Node LineFault) → Result ℕ ReadFault → Type 0 where
  all : Ends room count None (Ok count)
  fails : {f : LineFault} → Ends room count (Some (Err f)) (Err (reading.Line (count + 1) f))
  many : {n : Node} → count ≡ 64 → Ends room count (Some (Ok n)) (Err (reading.TooManyNodes (count + 1)))
  full : {n : Node} → count < 64 → count ≡ room → Ends room count (Some (Ok n)) (Err (reading.NoPlace (count + 1)))

-- there is one answer at each place
ends_sole : {room count : ℕ} {o : Option (Result Node LineFault)} {r r' : Result ℕ ReadFault} → Ends room count o r → Ends room count o r' → r ≡ r'
ends_sole all all = refl
ends_sole fails fails = refl
ends_sole (many h) (many h') = refl
ends_sole (many h) (full few h') = absurd (omega arith)
ends_sole (full few h) (many h') = absurd (omega arith)
ends_sole (full few h) (full few' h') = refl

-- where a node comes and there is a place for it, reading does not end
has_place : {room count : ℕ} {n : Node} {r : Result ℕ ReadFault} → Ends room count (Some (Ok n)) r → count < 64 → count < room → ⊥
has_place (many h) few fits = omega arith
has_place (full few' h) few fits = omega arith

-- an answer to a text that is not too long
record Answered (text : List ℕ) (old new : List Node) (r : Result ℕ ReadFault) : Type 0 where
  ns : List Node
  rest : List ℕ
  next : Option (Result Node LineFault)
  front : Front text old new ns rest
  comes : Comes LineRead rest next
  ends : Ends (length old) (length ns) next r

-- what reading may answer is such an answer
read_answered : (text : List ℕ) (old new : List Node) (r : Result ℕ ReadFault) → length text ≤ max_bytes → TextRead text old new r → Answered text old new r
read_answered text old new (Ok count) short (_, (ns, is, front)) =
    record { ns = ns; rest = []; next = None; front = front; comes = refl; ends = rw is all }
read_answered text old new (Err f) short (inl (long, is, at)) = absurd (omega arith)
read_answered text old new (Err reading.TooLong) short (inr (_, (ns, rest, front, stops))) = absurd stops
read_answered text old new (Err (reading.Line line f)) short (inr (_, (ns, rest, front, (at, h)))) =
    record { ns = ns; rest = rest; next = Some (Err f); front = front; comes = h; ends = rw at fails }
read_answered text old new (Err (reading.TooManyNodes line)) short (inr (_, (ns, rest, front, (at, (line', begins, (n, ranged, is)), most)))) =
    record { ns = ns; rest = rest; next = Some (Ok n); front = front; comes = (line', begins, (is, ranged)); ends = rw at (many most) }
read_answered text old new (Err (reading.NoPlace line)) short (inr (_, (ns, rest, front, (at, (line', begins, (n, ranged, is)), few, most)))) =
    record { ns = ns; rest = rest; next = Some (Ok n); front = front; comes = (line', begins, (is, ranged)); ends = rw at (full few most) }

-- where a node comes after the nodes of an answer, another answer has not read it
stays : {text : List ℕ} {old new new' : List Node} {r r' : Result ℕ ReadFault} (a : Answered text old new r) (b : Answered text old new' r') (n : Node) (ks : List Node) → a.next ≡ Some (Ok n) → b.ns ≡ a.ns ++ n ∷ ks → ⊥
stays a b n ks next is =
    let len = ap length is ∙ length-append a.ns (n ∷ ks) in
    has_place (rw next at a.ends) (omega (arith, b.front.few)) (omega (arith, b.front.fits))

-- answers to a text that is not too long are one answer
answered_sole : {text : List ℕ} {old new new' : List Node} {r r' : Result ℕ ReadFault} → Answered text old new r → Answered text old new' r' → (new' ≡ new) × (r' ≡ r)
answered_sole {old = old} a b =
    let p = ways_sole LineRead line_sole line_of NodeInRange (λ n h. (refl, h)) line_lacks a.ns b.ns a.rest b.rest a.next b.next a.front.split b.front.split a.front.ranged b.front.ranged a.comes b.comes (stays a b) (stays b a) in (
      b.front.buffer ∙ ap (λ xs. xs ++ drop (length xs) old) (sym p.0) ∙ sym a.front.buffer,
      ends_sole (rw (← p.0, ← p.1) at b.ends) a.ends,
    )

-- a text that is too long has that answer
too_long : (text : List ℕ) (old new : List Node) (r : Result ℕ ReadFault) → max_bytes < length text → TextRead text old new r → (new ≡ old) × (r ≡ Err reading.TooLong)
too_long text old new (Ok count) long (short, _) = absurd (omega arith)
too_long text old new (Err f) long (inl (_, is, at)) = (is, ap Err at)
too_long text old new (Err f) long (inr (short, _)) = absurd (omega arith)

-- what reading may answer is the one answer
pub read_sole : (text : List ℕ) (old new : List Node) (r : Result ℕ ReadFault) → TextRead text old new r → ReadSole text old new r
read_sole text old new r h new' r' h' =
    ⊎_elim
    (λ (long : max_bytes < length text). let p = too_long text old new r long h in let q = too_long text old new' r' long h' in (q.0 ∙ sym p.0, q.1 ∙ sym p.1))
    (λ (short : length text ≤ max_bytes). answered_sole (read_answered text old new r short h) (read_answered text old new' r' short h'))
    (cases_lt max_bytes (length text))
