-- The faults of bytes: their numbers and names, and those of an instruction among them.
use Rattle.std.specs.Prelude.{ℕ, List, codes}
use Rattle.wcode.specs.declared.fault.Kind.{Kind}
use Rattle.wcode.specs.declared.fault.Kind.TheVariants as kinds
use Rattle.wcode.specs.declared.fault.BinFault.{BinFault}
use Rattle.wcode.specs.declared.fault.BinFault.TheVariants as bin

-- the number of what is wrong with bytes
abbrev pub kind_number : Kind → ℕ
kind_number kinds.Truncated = 1
kind_number kinds.BadMagic = 2
kind_number kinds.BadVersion = 3
kind_number kinds.BadSection = 4
kind_number kinds.BadNumber = 5
kind_number kinds.BadType = 6
kind_number kinds.BadOpcode = 7
kind_number kinds.BadName = 8
kind_number kinds.CountMismatch = 9
kind_number kinds.TooDeep = 10
kind_number kinds.TooLong = 11

-- the name of what is wrong with bytes
abbrev pub kind_name : Kind → List ℕ
kind_name kinds.Truncated = codes "Truncated"
kind_name kinds.BadMagic = codes "BadMagic"
kind_name kinds.BadVersion = codes "BadVersion"
kind_name kinds.BadSection = codes "BadSection"
kind_name kinds.BadNumber = codes "BadNumber"
kind_name kinds.BadType = codes "BadType"
kind_name kinds.BadOpcode = codes "BadOpcode"
kind_name kinds.BadName = codes "BadName"
kind_name kinds.CountMismatch = codes "CountMismatch"
kind_name kinds.TooDeep = codes "TooDeep"
kind_name kinds.TooLong = codes "TooLong"

-- the number that messages tell
abbrev pub number_of : BinFault → ℕ
number_of (bin.Malformed kind place) = 1
number_of bin.Float = 2
number_of bin.NoMemory = 3

-- the name that messages tell
abbrev pub name_of : BinFault → List ℕ
name_of (bin.Malformed kind place) = codes "Malformed"
name_of bin.Float = codes "Float"
name_of bin.NoMemory = codes "NoMemory"
