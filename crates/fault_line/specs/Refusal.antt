-- Why a plugin's module is refused, as messages tell it.
use Rattle.std.specs.Prelude.{ℕ, List, ◌++◌, codes, decimal, Option, Some, None}
use Rattle.wcode.specs.Fault as bin
use Rattle.wcode.specs.declared.fault.BinFault.{BinFault}
use Rattle.wcode.specs.declared.fault.BinFault.TheVariants as bin_fault
use Rattle.wbody.specs.Fault as type
use Rattle.wbody.specs.declared.fault.TypeFault.{TypeFault}
use Rattle.wbody.specs.declared.fault.TypeFault.TheVariants as type_fault
use Rattle.rules.specs.Trap as trap
use Rattle.whost.specs.Refused as instance
use Rattle.whost.specs.declared.fault.InstanceFault.{InstanceFault}
use Rattle.whost.specs.declared.fault.InstanceFault.TheVariants as instance_fault
use Rattle.fault_line.specs.Text.{fault_text}
use Rattle.fault_line.specs.declared.refusal.Refusal.{Refusal}
use Rattle.fault_line.specs.declared.refusal.Refusal.TheVariants.{Undecoded, Untyped, NotReady}

-- why bytes spell no module: of what can't be read, what is wrong and where it begins
unfoldable pub bin_text : BinFault → List ℕ
bin_text (bin_fault.Malformed kind place) =
    fault_text (bin.number_of (bin_fault.Malformed kind place)) (bin.name_of (bin_fault.Malformed kind place))
    ++ codes " " ++ fault_text (bin.kind_number kind) (bin.kind_name kind) ++ codes " at " ++ decimal place
bin_text bin_fault.Float = fault_text (bin.number_of bin_fault.Float) (bin.name_of bin_fault.Float)
bin_text bin_fault.NoMemory = fault_text (bin.number_of bin_fault.NoMemory) (bin.name_of bin_fault.NoMemory)

-- where typing fails: a rule of the module, or the function with this index at this place
abbrev pub where_text : Option ℕ → ℕ → List ℕ
where_text None place = codes " module"
where_text (Some function) place = codes " function " ++ decimal function ++ codes " at " ++ decimal place

-- why a module isn't accepted
unfoldable pub type_text : TypeFault → List ℕ
type_text (type_fault.Untyped function place) =
    fault_text (type.number_of (type_fault.Untyped function place)) (type.name_of (type_fault.Untyped function place)) ++ where_text function place
type_text type_fault.BadImport = fault_text (type.number_of type_fault.BadImport) (type.name_of type_fault.BadImport)
type_text type_fault.BadExport = fault_text (type.number_of type_fault.BadExport) (type.name_of type_fault.BadExport)
type_text type_fault.OverLimit = fault_text (type.number_of type_fault.OverLimit) (type.name_of type_fault.OverLimit)
type_text type_fault.NoMemory = fault_text (type.number_of type_fault.NoMemory) (type.name_of type_fault.NoMemory)

-- why no instance of a module can be made: of a start function that is cut off, by which trap
unfoldable pub instance_text : InstanceFault → List ℕ
instance_text (instance_fault.StartTrap why) =
    fault_text (instance.number_of (instance_fault.StartTrap why)) (instance.name_of (instance_fault.StartTrap why))
    ++ codes " " ++ fault_text (trap.number_of why) (trap.name_of why)
instance_text instance_fault.DataOutOfBounds = fault_text (instance.number_of instance_fault.DataOutOfBounds) (instance.name_of instance_fault.DataOutOfBounds)
instance_text instance_fault.ElementOutOfBounds = fault_text (instance.number_of instance_fault.ElementOutOfBounds) (instance.name_of instance_fault.ElementOutOfBounds)
instance_text instance_fault.StartExhausted = fault_text (instance.number_of instance_fault.StartExhausted) (instance.name_of instance_fault.StartExhausted)
instance_text instance_fault.NoMemory = fault_text (instance.number_of instance_fault.NoMemory) (instance.name_of instance_fault.NoMemory)

-- why a module is refused
unfoldable pub refusal_text : Refusal → List ℕ
refusal_text (Undecoded fault) = codes "refused decode " ++ bin_text fault
refusal_text (Untyped fault) = codes "refused type " ++ type_text fault
refusal_text (NotReady fault) = codes "refused instance " ++ instance_text fault
