use Rattle.std.proofs.Common.{refl, arith, rules, tests}
use Rattle.std.proofs.lemmas.Iterator.{cases_from_any, YieldsList-from_range}
use Rattle.memory.proofs.Holds.{Told, Untold, asked}
use Rattle.memory.proofs.memory.Memory.waits.Goals as goal

pub returns : goal.returns
returns g c = λ o.
    let m = g.Self.Memory.meaning c.args.self.now in
    let y = c.args.address in
    let n = c.writes.result in
    asked m y n c.any.result (c.writes.ensures o) (cases_from_any _ _ _ (Told m y) (Untold m y) c.any.ensures.ran (YieldsList-from_range 0 n n refl (omega arith)) (λ x q k. search (rules, tests)) (λ x q k. search (rules, tests)))
