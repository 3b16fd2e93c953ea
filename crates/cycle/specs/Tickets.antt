-- What a ticket is.
use Rattle.cycle.specs.declared.Ticket.{Ticket}

-- the one ticket that there is: it stands for an open cycle, and says nothing more
abbrev pub opened : Ticket
opened = record { mark = tt }
