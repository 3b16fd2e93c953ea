-- The number and the place of a text's fault.
use Rattle.text.specs.declared.faults.Report.{Report}
use Rattle.page.specs.declared.faults.RoomFault.{RoomFault}
use Rattle.page.specs.declared.faults.RoomFault.TheVariants.{NoRoom}

-- what is printed of it
abbrev pub room_fault : RoomFault → Report
room_fault NoRoom = record { number = 14; place = 0 }
