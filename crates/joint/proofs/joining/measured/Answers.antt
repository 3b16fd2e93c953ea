use Rattle.std.proofs.Common.{◌≡◌, ◌∙◌, arith}
use Rattle.memory.proofs.Ranges.{planned_small}
use Rattle.joint.proofs.Measuring.{converted}
use Rattle.joint.proofs.joining.measured.Goals as goal

pub returns-clause-says : goal.returns-clause-says
returns-clause-says g c = λ o.
    let m = g.M.Memory.meaning c.args.memory.now in
    let s = planned_small (g.met.M.Memory.planned c.args.memory.now o) in
    let r = c.reads.ensures o in
    let w = c.writes.ensures o in
    let d = c.depth-depth.ensures o in
    let reads : c.unwrap_or.result ≡ m.reads = c.unwrap_or.ensures ∙ converted 8 c.reads.result 255 c.try_from.result c.try_from.ensures (omega arith) ∙ r in
    let writes : c.unwrap_or-2.result ≡ m.writes = c.unwrap_or-2.ensures ∙ converted 8 c.writes.result 255 c.try_from-2.result c.try_from-2.ensures (omega arith) ∙ w in
    let depth : c.unwrap_or-3.result ≡ m.depth = c.unwrap_or-3.ensures ∙ converted 32 c.depth-depth.result 4294967295 c.try_from-3.result c.try_from-3.ensures (omega arith) ∙ d in
    (omega arith, (λ i. record { letter = c.letter.ensures i; reads = reads i; writes = writes i; depth = depth i }), c.nodes.ensures o)
