-- The traps of accesses to a memory: their numbers and names in this project's list of traps.
use Rattle.std.specs.Prelude.{ℕ, List, codes}
use Rattle.wmem.specs.declared.trap.Trap.{Trap}
use Rattle.wmem.specs.declared.trap.Trap.TheVariants.{MemoryOutOfBounds, HostOutOfBounds}

-- a trap's number
abbrev pub number_of : Trap → ℕ
number_of MemoryOutOfBounds = 4
number_of HostOutOfBounds = 9

-- a trap's name, in ASCII
abbrev pub name_of : Trap → List ℕ
name_of MemoryOutOfBounds = codes "MemoryOutOfBounds"
name_of HostOutOfBounds = codes "HostOutOfBounds"
