-- The numbers and names of the faults that end a run.
use Rattle.std.specs.Prelude.{ℕ, List, codes}
use Rattle.streams.specs.declared.fault.RunFault.{RunFault}
use Rattle.streams.specs.declared.fault.RunFault.TheVariants.{Line, NoMemory, Read, Write, NoPlace}

-- the number that messages tell
abbrev pub number_of : RunFault → ℕ
number_of (Line number fault) = 1
number_of NoMemory = 2
number_of Read = 3
number_of Write = 4
number_of NoPlace = 5

-- the name that messages tell
abbrev pub name_of : RunFault → List ℕ
name_of (Line number fault) = codes "Line"
name_of NoMemory = codes "NoMemory"
name_of Read = codes "Read"
name_of Write = codes "Write"
name_of NoPlace = codes "NoPlace"
