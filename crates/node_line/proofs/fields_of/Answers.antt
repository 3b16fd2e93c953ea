use Rattle.std.proofs.Common.{sym, refl, subst}
use Rattle.text.specs.Numbers.{Canonical}
use Rattle.text.proofs.Cuts.{number_off}
use Rattle.node_line.proofs.Rows.{letter_off, row_joins}
use Rattle.node_line.proofs.fields_of.Goals as goal

pub returns-in_err-letter : goal.returns-in_err-letter
returns-in_err-letter c =
    let told = c.in_err-letter.ensures in
    let k = c.in_ok-kind.ensures in
    rw c.from_residual-in_err-letter.ensures (λ w. told w.letter _ (number_off k.1 k.2 w.is w.kind_ok).1)

pub returns-in_err-reads : goal.returns-in_err-reads
returns-in_err-reads c =
    let told = c.in_err-reads.ensures in
    let k = c.in_ok-kind.ensures in
    let x = c.in_ok-letter.ensures in
    rw c.from_residual-in_err-reads.ensures (λ w.
    let a = (number_off k.1 k.2 w.is w.kind_ok).1 in
    told w.reads _ (letter_off x a).1 w.reads_ok)

pub returns-in_err-writes : goal.returns-in_err-writes
returns-in_err-writes c =
    let told = c.in_err-writes.ensures in
    let k = c.in_ok-kind.ensures in
    let x = c.in_ok-letter.ensures in
    let r = c.in_ok-reads.ensures in
    rw c.from_residual-in_err-writes.ensures (λ w.
    let a = (number_off k.1 k.2 w.is w.kind_ok).1 in
    let b = (number_off r.1 r.2 (letter_off x a).1 w.reads_ok).1 in
    told w.writes _ b w.writes_ok)

pub returns-in_err-depth : goal.returns-in_err-depth
returns-in_err-depth c =
    let told = c.in_err-depth.ensures in
    let k = c.in_ok-kind.ensures in
    let x = c.in_ok-letter.ensures in
    let r = c.in_ok-reads.ensures in
    let s = c.in_ok-writes.ensures in
    rw c.from_residual-in_err-depth.ensures (λ w.
    let a = (number_off k.1 k.2 w.is w.kind_ok).1 in
    let b = (number_off r.1 r.2 (letter_off x a).1 w.reads_ok).1 in
    let d = (number_off s.1 s.2 b w.writes_ok).1 in
    told (subst Canonical (sym d) w.depth_ok))

pub returns : goal.returns
returns c =
    let k = c.in_ok-kind.ensures in
    let x = c.in_ok-letter.ensures in
    let r = c.in_ok-reads.ensures in
    let s = c.in_ok-writes.ensures in
    let d = c.in_ok-depth.ensures in
    record {
      fields = record {
        kind = k.0;
        letter = c.in_ok-letter.letter;
        reads = r.0;
        writes = s.0;
        depth = c.in_ok-writes.rest.now;
        is = row_joins k.0 c.in_ok-letter.letter r.0 s.0 c.in_ok-writes.rest.now k.1 x r.1 s.1;
        kind_ok = k.2;
        reads_ok = r.2;
        writes_ok = s.2;
        depth_ok = d.0;
      };
      kind = k.3;
      letter = refl;
      reads = r.3;
      writes = s.3;
      depth = d.1;
    }
