-- The number and the place of each fault of planning.
use Rattle.text.specs.declared.faults.Report.{Report}
use Rattle.stock.specs.Faults.{stock_fault}
use Rattle.page.specs.Faults.{room_fault}
use Rattle.pile.specs.declared.faults.PlanningFault.{PlanningFault}
use Rattle.pile.specs.declared.faults.PlanningFault.TheVariants.{Stock, Listing}

-- what is printed of a fault
abbrev pub planning_fault : PlanningFault → Report
planning_fault (Stock f) = stock_fault f
planning_fault (Listing f) = room_fault f
