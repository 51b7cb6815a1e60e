-- The numbers and names of refusals.
use Rattle.std.specs.Prelude.{ℕ, List, codes}
use Rattle.book.specs.declared.refusal.Refusal.{Refusal}
use Rattle.book.specs.declared.refusal.Refusal.TheVariants.{Old, Full, NotInFlight, Placed, NoNode, NoRoom, StaleTicket, Gone, ClockBack, Known, Confirmed}

-- the number that an output line tells
abbrev pub number_of : Refusal → ℕ
number_of Old = 1
number_of Full = 2
number_of NotInFlight = 3
number_of Placed = 4
number_of NoNode = 5
number_of NoRoom = 6
number_of StaleTicket = 7
number_of Gone = 8
number_of ClockBack = 9
number_of Known = 10
number_of Confirmed = 11

-- the name that an output line tells
abbrev pub name_of : Refusal → List ℕ
name_of Old = codes "Old"
name_of Full = codes "Full"
name_of NotInFlight = codes "NotInFlight"
name_of Placed = codes "Placed"
name_of NoNode = codes "NoNode"
name_of NoRoom = codes "NoRoom"
name_of StaleTicket = codes "StaleTicket"
name_of Gone = codes "Gone"
name_of ClockBack = codes "ClockBack"
name_of Known = codes "Known"
name_of Confirmed = codes "Confirmed"
