-- What is read of a text that was written, and written of a text that was read.
use Rattle.std.proofs.Common.{◌≡◌, ℕ, ◌+◌, ◌*◌, ◌<◌, ◌≤◌, List, [], ◌∷◌, ◌++◌, length, get_or, take, drop, true, is_ok, Ok, Err, Result, MatchResult, IsErrAnd, sym, refl, ap, ◌∙◌, subst, inr, ⊎_elim, append-nil, arith, length-append, take-append-drop}
use Rattle.std.specs.List.{AllByRecursion}
use Rattle.std.proofs.ByRecursion.{All-append, All-drop, All-take}
use Rattle.std.proofs.lemmas.List.{drop_all, drop_more, length-take-le, take_at}
use Rattle.std.proofs.lemmas.Bool.{cases_lt}
use Rattle.text.proofs.Fronts.{text_cons}
use Rattle.node.specs.declared.node.Node.{Node}
use Rattle.node.specs.declared.node.Node.TheVariants as node
use Rattle.node.specs.declared.node.Layer.TheVariants.{Lvt}
use Rattle.node.specs.declared.shape.Shape.{Shape}
use Rattle.node.specs.Plans.{Plan, single, layered}
use Rattle.node_line.specs.Lines.{line_of, NodeInRange}
use Rattle.node_line.proofs.Rendering.{line_short}
use Rattle.plan_text.specs.declared.faults.ReadFault.{ReadFault}
use Rattle.plan_text.specs.declared.faults.ReadFault.TheVariants as reading
use Rattle.plan_text.specs.Texts.{NodeComes, ReadSole, TextRead, text_of}
use Rattle.plan_text.specs.declared.faults.TripFault.{TripFault}
use Rattle.plan_text.specs.declared.faults.TripFault.TheVariants as trip
use Rattle.plan_text.specs.declared.faults.WriteFault.{WriteFault}
use Rattle.plan_text.specs.Trips.{Reread}
use Rattle.plan_text.specs.Writing.{Passing, TextWritten}
use Rattle.plan_text.proofs.Fronts.{line_lacks}
use Rattle.std.proofs.lemmas.Grind.{flat_map-append}

-- the nodes of a plan are in range
plan_ranged : {ns : List Node} {s : Shape} → Plan ns s → AllByRecursion NodeInRange ns
plan_ranged (single h) = (h, tt)
plan_ranged (layered l {p = p} {q = q} first second fit) =
    All-append NodeInRange p (q ++ (node.Layer l ∷ [])) (plan_ranged first) (All-append NodeInRange q (node.Layer l ∷ []) (plan_ranged second) (tt, tt))

-- a text has at most 64 bytes for each node
text_bound : (ns : List Node) → AllByRecursion NodeInRange ns → length (text_of ns) ≤ 64 * length ns
text_bound [] h = omega arith
text_bound (n ∷ ns) h = omega (arith, line_short n h.0, text_bound ns h.1, length-append (line_of n ++ (10 ∷ [])) (text_of ns))

-- so the text of every plan that passes may be read
passing_short : (ns : List Node) → Passing ns → length (text_of ns) ≤ 65536
passing_short ns (s, (few, plan)) = omega (arith, text_bound ns (plan_ranged plan))

-- a written plan reads back where the buffer has room
read_whole : (ns old : List Node) → Passing ns → length ns ≤ length old → TextRead (text_of ns) old (ns ++ drop (length ns) old) (Ok (length ns))
read_whole ns old passing fits = (
  passing_short ns passing,
  (ns, refl, record { split = sym (append-nil (text_of ns)); ranged = plan_ranged passing.1.1; few = passing.1.0; fits = fits; buffer = refl }),
)

-- the line of the first of some nodes comes
node_comes : (n : Node) (ns : List Node) → NodeInRange n → NodeComes (text_of (n ∷ ns))
node_comes n ns h = (
  line_of n,
  ((text_of ns, sym (append-nil (text_of (n ∷ ns))) ∙ text_cons line_of n ns [] ∙ ap (λ (t : List ℕ). line_of n ++ (10 ∷ t)) (append-nil (text_of ns))), line_lacks n h),
  (n, h, refl),
)

-- and where it has none for all, as many as it holds
read_part : (ns old : List Node) (d : Node) → Passing ns → length old < length ns → TextRead (text_of ns) old (take (length old) ns) (Err (reading.NoPlace (length old + 1)))
read_part ns old d passing short =
    let k = length old in
    let long = length-take-le k ns (omega arith) in
    let ranged = plan_ranged passing.1.1 in
    let next = drop_more ns k d short in
    let comes = subst (λ (t : List Node). NodeComes (text_of t)) (sym next) (node_comes (get_or ns k d) (drop (k + 1) ns) (subst (AllByRecursion NodeInRange) next (All-drop NodeInRange k ns ranged)).0) in
    inr (
      passing_short ns passing,
      (
        take k ns,
        text_of (drop k ns),
        record {
          split = ap text_of (sym (take-append-drop k ns)) ∙ flat_map-append (λ n. line_of n ++ (10 ∷ [])) (take k ns) (drop k ns);
          ranged = All-take NodeInRange k ns ranged;
          few = omega (arith, passing.1.0);
          fits = omega arith;
          buffer = sym (append-nil (take k ns)) ∙ ap (λ (xs : List Node). take k ns ++ xs) (sym (drop_all (length (take k ns)) old (omega arith)));
        },
        (ap (λ (i : ℕ). i + 1) (sym long), comes, omega (arith, passing.1.0), long),
      ),
    )

-- the answer of a trip that ends with reading
abbrev pub by_read : Result ℕ ReadFault → Result ℕ TripFault
by_read (Ok n) = Ok n
by_read (Err f) = Err (trip.Read f)

-- the answer of a trip that ends with reading is what was read
pub ends_with_read : (r : Result ℕ ReadFault) (q : Result ℕ TripFault) → MatchResult r (λ n. q ≡ Ok n) (λ f. IsErrAnd q (λ g. g ≡ trip.Read f)) → by_read r ≡ q
ends_with_read (Ok n) q is = sym is
ends_with_read (Err f) (Ok n) is = absurd is
ends_with_read (Err f) (Err g) is = ap Err (sym is)

-- what was written before a trip went on
pub went_on : (r : Result ℕ WriteFault) (n : ℕ) (Q : WriteFault → Type 0) → MatchResult r (λ m. ◌≡◌ {A = Result ℕ TripFault} (Ok n) (Ok m)) Q → true ≡ is_ok r → r ≡ Ok n
went_on (Ok m) n Q is ok = cc
went_on (Err f) n Q is ok = absurd (cc)

-- nodes that were written and read back
pub reread : (ns : List Node) (out out' : List ℕ) (old new : List Node) (n : ℕ) (r : Result ℕ ReadFault) → TextWritten ns out out' (Ok n) → ReadSole (take n out') old new r → Reread ns out out' old new (by_read r)
reread ns out out' old new n r w sole =
    let passing = w.0 in
    let is = ap (take n) w.3 ∙ take_at (text_of ns) (drop n out) n (sym w.1) in
    let written = subst (λ (k : ℕ). TextWritten ns out out' (Ok k)) w.1 w in
    ⊎_elim
    (λ (short : length old < length ns).
    let p = sole (take (length old) ns) (Err (reading.NoPlace (length old + 1))) (subst (λ (t : List ℕ). TextRead t old (take (length old) ns) (Err (reading.NoPlace (length old + 1)))) (sym is) (read_part ns old (node.Layer Lvt) passing short)) in
    subst (λ (q : Result ℕ ReadFault). Reread ns out out' old new (by_read q)) p.1 (written, refl, short, sym p.0))
    (λ (fits : length ns ≤ length old).
    let p = sole (ns ++ drop (length ns) old) (Ok (length ns)) (subst (λ (t : List ℕ). TextRead t old (ns ++ drop (length ns) old) (Ok (length ns))) (sym is) (read_whole ns old passing fits)) in
    subst (λ (q : Result ℕ ReadFault). Reread ns out out' old new (by_read q)) p.1 (written, refl, fits, sym p.0))
    (cases_lt (length old) (length ns))
