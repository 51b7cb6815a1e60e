-- The traps that may be told: their numbers and names in this project's list of traps.
use Rattle.std.specs.Prelude.{ℕ, List, codes}
use Rattle.rules.specs.declared.trap.Trap.{Trap}
use Rattle.rules.specs.declared.trap.Trap.TheVariants.{Unreachable, DivideByZero, IntegerOverflow, MemoryOutOfBounds, UndefinedElement, UninitializedElement, SignatureMismatch, CallDepth, HostOutOfBounds, NoRecord}

-- a trap's number
abbrev pub number_of : Trap → ℕ
number_of Unreachable = 1
number_of DivideByZero = 2
number_of IntegerOverflow = 3
number_of MemoryOutOfBounds = 4
number_of UndefinedElement = 5
number_of UninitializedElement = 6
number_of SignatureMismatch = 7
number_of CallDepth = 8
number_of HostOutOfBounds = 9
number_of NoRecord = 10

-- a trap's name, in ASCII
abbrev pub name_of : Trap → List ℕ
name_of Unreachable = codes "Unreachable"
name_of DivideByZero = codes "DivideByZero"
name_of IntegerOverflow = codes "IntegerOverflow"
name_of MemoryOutOfBounds = codes "MemoryOutOfBounds"
name_of UndefinedElement = codes "UndefinedElement"
name_of UninitializedElement = codes "UninitializedElement"
name_of SignatureMismatch = codes "SignatureMismatch"
name_of CallDepth = codes "CallDepth"
name_of HostOutOfBounds = codes "HostOutOfBounds"
name_of NoRecord = codes "NoRecord"
