-- The line of a fault.
use Rattle.std.specs.Prelude.{ℕ, List, [], ◌∷◌, ◌++◌, codes, decimal}
use Rattle.text.specs.declared.faults.Report.{Report}
use Rattle.text.specs.Fields.{tabbed}
use Rattle.fault_line.specs.declared.Part.{Part}
use Rattle.fault_line.specs.declared.Part.TheVariants.{Plan, Stock, Netlist}

-- the word of each part
abbrev pub part_name : Part → List ℕ
part_name Plan = codes "plan"
part_name Stock = codes "stock"
part_name Netlist = codes "netlist"

-- the line, without its end: the part, the number and the place
abbrev pub fault_text : Part → Report → List ℕ
fault_text part r = codes "fault" ++ (9 ∷ tabbed (part_name part ∷ decimal r.number ∷ decimal r.place ∷ []))
