use Rattle.joint.proofs.Piles.{live_read}
use Rattle.xor.proofs.Halves.{read_layer}
use Rattle.xor.proofs.XorRuleRule.read.Goals as goal

pub returns-clause-does : goal.returns-clause-does
returns-clause-does g c = λ o m.
    let h = c.args.halves.now in
    let k = o (live_read h.joint c.args.port m.0) in
    let r = k.ready in
    (read_layer g.A.Word.Group.plus g.A.Word.Word.kind h.joint _ _ _ _ c.args.port c.args.address c.read_both.result
    r.agreed k.paired (g.met.A.Memory.tidy h.a r.first) (g.met.B.Memory.tidy h.b r.second) m
    (c.read_both.ensures.does r.first r.second)).0
