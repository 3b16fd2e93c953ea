-- The number and the place of each fault of the reader.
use Rattle.text.specs.declared.faults.Report.{Report}
use Rattle.text.specs.Faults.{line_fault}
use Rattle.stock.specs.declared.faults.StockFault.{StockFault}
use Rattle.stock.specs.declared.faults.StockFault.TheVariants as stock

-- what is printed of a fault of the reader
abbrev pub stock_fault : StockFault → Report
stock_fault stock.TooLong = record { number = 16; place = 0 }
stock_fault (stock.Line line f) = record { number = line_fault f; place = line }
stock_fault (stock.Twice line) = record { number = 13; place = line }
stock_fault stock.Empty = record { number = 12; place = 1 }
