use Rattle.std.proofs.Common.{subst, rules}
use Rattle.plan_text.specs.Writing.{TextWritten}
use Rattle.plan_text.specs.Trips.{Reread}
use Rattle.plan_text.proofs.RoundTrips.{ends_with_read, reread, went_on}
use Rattle.plan_text.proofs.trips.reread.Goals as goal

pub returns : goal.returns
returns c =
    let ns = c.args.nodes.now in
    let out = c.args.out.now in
    let was = went_on c.write.result c.in_ok-size.size _ c.in_ok-size.ensures.cases c.in_ok-size.ensures.variant in
    let written = subst (TextWritten ns out c.write.new.out) was c.write.ensures in
    subst (Reread ns out c.write.new.out c.args.back.now c.read.new.nodes) (ends_with_read c.read.result c.map_err-2.result (search rules))
    (reread ns out _ _ _ _ _ written c.read.ensures.sole)
