-- The traps of integer operations: their numbers and names in this project's list of traps.
use Rattle.std.specs.Prelude.{ℕ, List, codes}
use Rattle.wnum.specs.declared.trap.Trap.{Trap}
use Rattle.wnum.specs.declared.trap.Trap.TheVariants.{DivideByZero, IntegerOverflow}

-- a trap's number
abbrev pub number_of : Trap → ℕ
number_of DivideByZero = 2
number_of IntegerOverflow = 3

-- a trap's name, in ASCII
abbrev pub name_of : Trap → List ℕ
name_of DivideByZero = codes "DivideByZero"
name_of IntegerOverflow = codes "IntegerOverflow"
