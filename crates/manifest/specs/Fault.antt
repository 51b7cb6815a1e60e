-- The numbers and names of a line's faults.
use Rattle.std.specs.Prelude.{ℕ, List, codes, Option, Some, None}
use Rattle.manifest.specs.declared.field.Field.{Field}
use Rattle.manifest.specs.declared.fault.LineFault.{LineFault}
use Rattle.manifest.specs.declared.fault.LineFault.TheVariants.{NotJson, BadField, Quantity, OverLimit, NoMemory}

-- the number that messages tell
abbrev pub number_of : LineFault → ℕ
number_of NotJson = 1
number_of (BadField field) = 2
number_of (Quantity field) = 3
number_of (OverLimit field) = 4
number_of NoMemory = 5

-- the name that messages tell
abbrev pub name_of : LineFault → List ℕ
name_of NotJson = codes "NotJson"
name_of (BadField field) = codes "BadField"
name_of (Quantity field) = codes "Quantity"
name_of (OverLimit field) = codes "OverLimit"
name_of NoMemory = codes "NoMemory"

-- the field in which the fault stands
abbrev pub field_of : LineFault → Option Field
field_of NotJson = None
field_of (BadField field) = Some field
field_of (Quantity field) = Some field
field_of (OverLimit field) = Some field
field_of NoMemory = None
