use Rattle.std.specs.Prelude.{Ok}
use Rattle.node.specs.declared.node.Layer.TheVariants.{Xor as own}
use Rattle.memory.specs.Calls.{MayWrite}
use Rattle.joint.proofs.Piles.{live_write}
use Rattle.layered.specs.Layered.{InOrder, meant}
use Rattle.xor.specs.Xor.{Paired, xor}
use Rattle.xor.proofs.Halves.{put_first, put_second}
use Rattle.xor.proofs.XorRuleRule.write.Goals as goal

pub returns-in-First : goal.returns-in-First
returns-in-First g c =
    let h = c.args.halves.now in
    let did = λ (o : InOrder own g.A.Word.Word.kind g.A.Memory.ordered g.B.Memory.ordered g.A.Memory.meaning g.B.Memory.meaning Paired h)
    (m : MayWrite (meant g.A.Memory.meaning g.B.Memory.meaning (xor g.A.Word.Group.plus) h) c.args.port c.args.address (Ok tt)). (
    let k = o (live_write h.joint c.args.port m.0) in
    let r = k.ready in
    put_first g.A.Word.Group.plus g.A.Word.Group.minus g.met.A.Word.Group.restores g.A.Word.Word.kind h.joint _ _ _ _
    c.args.port c.in-First.port c.recovery_port-recovery.result c.args.address c.args.word c.put.result
    r.agreed k.paired (g.met.A.Memory.tidy h.a r.first) (g.met.B.Memory.tidy h.b r.second) m
    c.in-First.ensures c.recovery_port-recovery.ensures (c.put.ensures.does r.first r.second)) in
    record {
      order = λ o m live. (
          let r = (o live).ready in
          let d = did o m in
          record { ready = record { first = c.put.ensures.half r.first; second = c.put.ensures.other r.second; agreed = d.1 }; paired = d.2 });
      does = λ o m. (did o m).0;
    }

pub returns-in-Second : goal.returns-in-Second
returns-in-Second g c =
    let h = c.args.halves.now in
    let did = λ (o : InOrder own g.A.Word.Word.kind g.A.Memory.ordered g.B.Memory.ordered g.A.Memory.meaning g.B.Memory.meaning Paired h)
    (m : MayWrite (meant g.A.Memory.meaning g.B.Memory.meaning (xor g.A.Word.Group.plus) h) c.args.port c.args.address (Ok tt)). (
    let k = o (live_write h.joint c.args.port m.0) in
    let r = k.ready in
    put_second g.A.Word.Group.plus g.A.Word.Group.minus g.met.A.Word.Group.commutes g.met.A.Word.Group.restores g.A.Word.Word.kind h.joint _ _ _ _
    c.args.port c.in-Second.port c.recovery_port-recovery-in-Second.result c.args.address c.args.word c.put-in-Second.result
    r.agreed k.paired (g.met.A.Memory.tidy h.a r.first) (g.met.B.Memory.tidy h.b r.second) m
    c.in-Second.ensures c.recovery_port-recovery-in-Second.ensures (c.put-in-Second.ensures.does r.second r.first)) in
    record {
      order = λ o m live. (
          let r = (o live).ready in
          let d = did o m in
          record { ready = record { first = c.put-in-Second.ensures.other r.first; second = c.put-in-Second.ensures.half r.second; agreed = d.1 }; paired = d.2 });
      does = λ o m. (did o m).0;
    }
