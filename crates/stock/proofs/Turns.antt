-- The turns of the reader: one line is read after another.
use Rattle.std.proofs.Common.{◌≡◌, ℕ, ◌+◌, ◌<◌, cond, eqb, List, [], ◌∷◌, ◌++◌, length, get_or, Some, None, Ok, Err, Option, Result, sym, ap, ◌∙◌, subst, arith, length-set}
use Rattle.std.specs.Borrow.{Bor}
use Rattle.std.proofs.ByRecursion.{All-push}
use Rattle.std.proofs.lemmas.List.{length_push}
use Rattle.text.specs.declared.faults.LineFault.{LineFault}
use Rattle.text.specs.declared.text_lines.TextLines.{TextLines}
use Rattle.text.specs.Texts.{LineComes, LineTold, LinesOf}
use Rattle.text.proofs.Fronts.{text_push}
use Rattle.text.proofs.Begins.{Taken, refused, taken_begins}
use Rattle.node.specs.Limits.{max_kind}
use Rattle.stock.specs.declared.faults.StockFault.{StockFault}
use Rattle.stock.specs.declared.faults.StockFault.TheVariants as stock
use Rattle.stock.specs.declared.line.Entry.{Entry}
use Rattle.stock.specs.declared.stock.Stock.{Stock}
use Rattle.stock.specs.Lines.{InRange, LineRead, entry_line}
use Rattle.stock.specs.Stocks.{Added, blank, listed, listed_in}
use Rattle.stock.specs.Texts.{Front, StockRead, stock_text}
use Rattle.stock.proofs.Tables.{distinct_push, has_counted, listed_push, same_there, set_lists}

-- lines of a text are read, the table lists what they do, and these lines are to come
pub record Sofar (text : List ℕ) (s : Stock) (to_come : TextLines) : Type 0 where
  pub es : List Entry
  pub next : to_come.number ≡ length es + 1
  pub front : Front text es to_come.left.now
  pub wide : length s.counts ≡ max_kind + 1
  pub table : (kind : ℕ) → listed_in s kind ≡ listed es kind

-- no line is read
pub read_first : {text : List ℕ} {s : Stock} (to_come : TextLines) → LinesOf text (Some to_come) → s.counts ≡ blank → Sofar text s to_come
read_first to_come (short, whole, first) is = record {
  es = [];
  next = first;
  front = record { short = short; split = sym whole; ranged = tt; distinct = tt };
  wide = ap length is;
  table = λ k. ap (λ (t : List (Option ℕ)). get_or t k None) is ∙ same_there (max_kind + 1) k None;
}

-- a text that is not empty, and of which nothing is left, has entries
entries_there : {text : List ℕ} (es : List Entry) → text ≡ stock_text es ++ [] → 0 < length text → 0 < length es
entries_there [] e some = absurd (omega (arith, ap length e))
entries_there (x ∷ es) e some = omega arith

module _ {text : List ℕ} {s : Stock} {to_come : TextLines} (now : Sofar text s to_come) where
  -- one line more is read
  pub read_more : (after : TextLines) (line : ℕ) (e : Entry) (t : Stock) → Taken LineRead to_come after line e → Added s e line (Ok t) → Sofar text t after
  read_more after line e t k (free, holds) =
      let new = sym (now.table e.kind) ∙ free in
      let f = now.front in
      record {
        es = now.es ++ e ∷ [];
        next = omega (arith, length_push now.es e, now.next, k.further);
        front = record {
          short = f.short;
          split = f.split ∙ ap (λ t. stock_text now.es ++ t) (k.at ∙ ap (λ t. t ++ (10 ∷ after.left.now)) k.read.0) ∙ sym (text_push entry_line now.es e after.left.now);
          ranged = All-push InRange now.es e f.ranged k.read.1;
          distinct = distinct_push now.es e f.distinct new;
        };
        wide = ap length holds ∙ length-set s.counts e.kind (Some e.count) ∙ now.wide;
        table = λ k'.
            ap (λ (xs : List (Option ℕ)). get_or xs k' None) holds
            ∙ set_lists s.counts e.kind (Some e.count) k' (omega (arith, k.read.1.kind_high, now.wide))
            ∙ ap (cond (eqb e.kind k') (Some e.count)) (now.table k') ∙ sym (listed_push now.es e k' new);
      }

  -- the next line is refused by itself
  pub read_refused : (after : TextLines) (line : ℕ) (bytes : Result (Bor (List ℕ)) LineFault) (g : StockFault) → LineComes to_come (Some (line, bytes)) after → LineTold LineRead stock.Line line bytes (Err g) → StockRead text (Err g)
  read_refused after line bytes g e h =
      let r = refused LineRead stock.Line to_come after line bytes g e h in
      rw r.1 (now.es, to_come.left.now, now.front, omega (arith, now.next, r.2), r.3)

  -- the kind of the next line is listed already
  pub read_again : (after : TextLines) (line : ℕ) (e : Entry) (f : StockFault) → Taken LineRead to_come after line e → Added s e line (Err f) → StockRead text (Err f)
  read_again after line e f k (at, (c, is)) =
      rw at (now.es, to_come.left.now, now.front, omega (arith, now.next, k.here), (e, (k.bytes, taken_begins LineRead k, k.read), (c, sym (now.table e.kind) ∙ is)))

  -- nothing is left
  pub read_all : to_come.left.now ≡ [] → 0 < length text → StockRead text (Ok s)
  read_all e some =
      let f = subst (Front text now.es) e now.front in (
        now.es,
        f,
        entries_there now.es f.split some,
        (λ k. has_counted s now.es now.front.ranged now.table k),
      )
