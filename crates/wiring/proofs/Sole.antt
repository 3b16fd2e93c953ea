-- A plan and a buffer have one answer.
use Rattle.std.proofs.Common.{ℕ, List, Some, None, Ok, Err, Option, Result, sym, refl, ap, ◌∙◌}
use Rattle.node.specs.declared.node.Node.{Node}
use Rattle.node.specs.declared.verdict.Top.{Top}
use Rattle.page.specs.declared.faults.RoomFault.{RoomFault}
use Rattle.page.specs.declared.faults.RoomFault.TheVariants.{NoRoom}
use Rattle.page.specs.Texts.{Written}
use Rattle.page.proofs.Texts.{written_sole}
use Rattle.wiring.specs.Netlists.{NetlistText, NetlistWritten, NetlistSole}
use Rattle.wiring.specs.Walking.{text_sole}

-- the answer to a plan that is not empty is that of writing its text
text_written : (ns : List Node) (t : Top) (old new : List ℕ) (r : Result ℕ RoomFault) → NetlistWritten ns (Some t) old new r → Written (NetlistText ns t) old new r
text_written ns t old new (Ok n) (ls, wired, whole, room, is) = (_, (ls, wired, refl), whole, room, is)
text_written ns t old new (Err NoRoom) (ls, wired, long, is) = (_, (ls, wired, refl), long, is)

pub netlist_sole : (ns : List Node) (top : Option Top) (old new : List ℕ) (r : Result ℕ RoomFault) → NetlistWritten ns top old new r → NetlistSole ns top old new r
netlist_sole ns (Some t) old new r written new' r' written' =
    written_sole old new new' r r' (text_sole ns t) (text_written ns t old new r written) (text_written ns t old new' r' written')
netlist_sole ns None old new (Ok n) (nought, is) new' (Ok n') (nought', is') = (is' ∙ sym is, ap Ok (nought' ∙ sym nought))
netlist_sole ns None old new (Ok n) written new' (Err NoRoom) written' = absurd written'
netlist_sole ns None old new (Err NoRoom) written new' r' written' = absurd written
