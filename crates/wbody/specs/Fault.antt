-- The numbers and names of the faults of typing.
use Rattle.std.specs.Prelude.{ℕ, List, ⊤, codes}
use Rattle.wbody.specs.declared.fault.TypeFault.{TypeFault}
use Rattle.wbody.specs.declared.fault.TypeFault.TheVariants.{Untyped, BadImport, BadExport, OverLimit, NoMemory}

-- the number that messages tell
abbrev pub number_of : TypeFault → ℕ
number_of (Untyped function place) = 1
number_of BadImport = 2
number_of BadExport = 3
number_of OverLimit = 4
number_of NoMemory = 5

-- the name that messages tell
abbrev pub name_of : TypeFault → List ℕ
name_of (Untyped function place) = codes "Untyped"
name_of BadImport = codes "BadImport"
name_of BadExport = codes "BadExport"
name_of OverLimit = codes "OverLimit"
name_of NoMemory = codes "NoMemory"

-- the fault is one that a body alone can have
abbrev pub IsOfBody : TypeFault → Type 0
IsOfBody (Untyped function place) = ⊤
IsOfBody BadImport = ⊥
IsOfBody BadExport = ⊥
IsOfBody OverLimit = ⊥
IsOfBody NoMemory = ⊤
