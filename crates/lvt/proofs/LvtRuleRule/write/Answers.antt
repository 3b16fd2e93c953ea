use Rattle.joint.proofs.Piles.{live_write}
use Rattle.lvt.proofs.Halves.{write_first, write_second}
use Rattle.lvt.proofs.LvtRuleRule.write.Goals as goal

pub returns-in-First-clause-order : goal.returns-in-First-clause-order
returns-in-First-clause-order g c = λ o m live.
    let h = c.args.halves.now in
    let k = o live in
    let r = k.ready in
    let done = write_first g.A.Word.Word.kind h.joint c.args.self.now.marks (g.A.Memory.meaning h.a) (g.B.Memory.meaning h.b) (g.A.Memory.meaning c.write.new.self)
    c.args.port c.in-First.port c.args.address c.args.word c.write.result r.agreed k.paired m c.in-First.ensures (c.write.ensures.does r.first) in
    record { ready = record { first = c.write.ensures.order r.first; second = r.second; agreed = done.0 }; paired = done.1 }

pub returns-in-Second-clause-does : goal.returns-in-Second-clause-does
returns-in-Second-clause-does g c = λ o m.
    let h = c.args.halves.now in
    let k = o (live_write h.joint c.args.port m.0) in
    write_second g.A.Word.Word.kind h.joint c.args.self.now.marks (g.A.Memory.meaning h.a) (g.B.Memory.meaning h.b) (g.B.Memory.meaning c.write-in-Second.new.self)
    c.args.port c.in-Second.port c.args.address c.args.word c.write-in-Second.result k.ready.agreed k.paired m c.in-Second.ensures (c.write-in-Second.ensures.does k.ready.second)
