-- The number and the place of each fault of the check.
use Rattle.std.specs.Prelude.{ℕ, ◌+◌}
use Rattle.text.specs.declared.faults.Report.{Report}
use Rattle.node.specs.declared.faults.NodeFault.{NodeFault}
use Rattle.node.specs.declared.faults.NodeFault.TheVariants.{OutOfRange, TooFewMemories, Unfit}
use Rattle.node.specs.declared.faults.CheckFault.{CheckFault}
use Rattle.node.specs.declared.faults.CheckFault.TheVariants as fault
use Rattle.node.specs.Limits.{max_nodes}

-- the number of a node's fault
abbrev pub node_fault : NodeFault → ℕ
node_fault OutOfRange = 6
node_fault TooFewMemories = 9
node_fault Unfit = 10

-- what is printed of a plan's fault
abbrev pub check_fault : CheckFault → Report
check_fault fault.NoNodes = record { number = 7; place = 1 }
check_fault fault.TooManyNodes = record { number = 8; place = max_nodes + 1 }
check_fault (fault.Node place f) = record { number = node_fault f; place = place }
check_fault (fault.ManyMemories place) = record { number = 11; place = place }
