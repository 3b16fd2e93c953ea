-- The number and the place of each fault of the reader and the writer.
use Rattle.text.specs.declared.faults.Report.{Report}
use Rattle.text.specs.Faults.{line_fault}
use Rattle.node.specs.Faults.{check_fault}
use Rattle.plan_text.specs.declared.faults.ReadFault.{ReadFault}
use Rattle.plan_text.specs.declared.faults.ReadFault.TheVariants as reading
use Rattle.plan_text.specs.declared.faults.TripFault.{TripFault}
use Rattle.plan_text.specs.declared.faults.TripFault.TheVariants as trip
use Rattle.plan_text.specs.declared.faults.WriteFault.{WriteFault}
use Rattle.plan_text.specs.declared.faults.WriteFault.TheVariants as writing

-- what is printed of a fault of the reader
abbrev pub read_fault : ReadFault → Report
read_fault reading.TooLong = record { number = 16; place = 0 }
read_fault (reading.Line line f) = record { number = line_fault f; place = line }
read_fault (reading.TooManyNodes line) = record { number = 8; place = line }
read_fault (reading.NoPlace line) = record { number = 14; place = line }

-- what is printed of a fault of the writer
abbrev pub write_fault : WriteFault → Report
write_fault (writing.Check f) = check_fault f
write_fault writing.NoRoom = record { number = 14; place = 0 }

-- what is printed of a fault of a round trip
abbrev pub trip_fault : TripFault → Report
trip_fault (trip.Read f) = read_fault f
trip_fault (trip.Write f) = write_fault f
