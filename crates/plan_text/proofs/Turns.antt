-- One turn of the reader: a line is taken off the text, and its node goes into the next place.
use Rattle.std.proofs.Common.{◌≡◌, ℕ, ◌+◌, ◌<◌, ◌≤◌, List, [], ◌∷◌, ◌++◌, length, set, Some, Ok, Err, Result, subst, inr, arith}
use Rattle.std.specs.Borrow.{Bor}
use Rattle.text.specs.declared.faults.LineFault.{LineFault}
use Rattle.text.specs.declared.text_lines.TextLines.{TextLines}
use Rattle.text.specs.Faults.{max_bytes}
use Rattle.text.specs.Texts.{LineComes, LineTold}
use Rattle.text.proofs.Begins.{Taken, refused, taken_begins}
use Rattle.node.specs.declared.node.Node.{Node}
use Rattle.node.specs.Limits.{max_nodes}
use Rattle.node_line.specs.Reading.{LineRead}
use Rattle.plan_text.specs.declared.faults.ReadFault.{ReadFault}
use Rattle.plan_text.specs.declared.faults.ReadFault.TheVariants as reading
use Rattle.plan_text.specs.Texts.{Front, NodeComes, Stops, TextRead}
use Rattle.plan_text.proofs.Lines.{one_more}

-- so many nodes are read off the front of a text that is not too long, and these lines are to come
pub record Sofar (text : List ℕ) (old new : List Node) (count : ℕ) (s : TextLines) : Type 0 where
  pub short : length text ≤ max_bytes
  pub nodes : List Node
  pub counted : count ≡ length nodes
  pub next : s.number ≡ count + 1
  pub front : Front text old new nodes s.left.now

module _ {text : List ℕ} {old new : List Node} {count : ℕ} {s : TextLines} (i : Sofar text old new count s) where
  -- reading stops here
  pub stopped : (g : ReadFault) → Stops (length old) i.nodes s.left.now g → TextRead text old new (Err g)
  stopped g h = inr (i.short, (i.nodes, s.left.now, i.front, h))

  pub stopped_refused : (t : TextLines) (line : ℕ) (bytes : Result (Bor (List ℕ)) LineFault) (g : ReadFault) → LineComes s (Some (line, bytes)) t → LineTold LineRead reading.Line line bytes (Err g) → TextRead text old new (Err g)
  stopped_refused t line bytes g e h =
      let r = refused LineRead reading.Line s t line bytes g e h in
      stopped g (rw r.1 (omega (arith, i.counted, i.next, r.2), r.3))

  module _ {t : TextLines} {line : ℕ} {n : Node} (k : Taken LineRead s t line n) where
    comes : NodeComes s.left.now
    comes = (k.bytes, taken_begins LineRead k, (n, k.read.1, k.read.0))

    pub stopped_many : count ≡ max_nodes → TextRead text old new (Err (reading.TooManyNodes line))
    stopped_many e = stopped (reading.TooManyNodes line) (omega (arith, i.counted, i.next, k.here), comes, omega (arith, i.counted, e))

    pub stopped_full : count < max_nodes → count ≡ length old → TextRead text old new (Err (reading.NoPlace line))
    stopped_full few e = stopped (reading.NoPlace line) (omega (arith, i.counted, i.next, k.here), comes, omega (arith, i.counted), omega (arith, i.counted))

    pub read_more : count < max_nodes → count < length old → Sofar text old (set new count n) (count + 1) t
    read_more few room =
        let p = one_more k.bytes t.left.now n count i.front i.counted k.at k.read.0 k.read.1 few room in
        record {
          short = i.short;
          nodes = i.nodes ++ n ∷ [];
          counted = p.0;
          next = omega (arith, i.next, k.further);
          front = p.1;
        }

-- the whole text is read
pub read_all : {text : List ℕ} {old new : List Node} {count : ℕ} {s : TextLines} → Sofar text old new count s → s.left.now ≡ [] → TextRead text old new (Ok count)
read_all {text} {old} {new} {count} {s} i e = (i.short, (i.nodes, i.counted, subst (Front text old new i.nodes) e i.front))
