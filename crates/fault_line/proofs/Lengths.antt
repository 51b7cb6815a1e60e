-- How long the names of faults and fields are, at most.
use Rattle.std.proofs.Common.{◌≤◌, length, lit≤}
use Rattle.wcode.specs.Fault as bin
use Rattle.wcode.specs.declared.fault.Kind.{Kind}
use Rattle.wcode.specs.declared.fault.Kind.TheVariants as kinds
use Rattle.wcode.specs.declared.fault.BinFault.{BinFault}
use Rattle.wcode.specs.declared.fault.BinFault.TheVariants as bin_fault
use Rattle.wbody.specs.Fault as type
use Rattle.wbody.specs.declared.fault.TypeFault.{TypeFault}
use Rattle.wbody.specs.declared.fault.TypeFault.TheVariants as type_fault
use Rattle.manifest.specs.Field.{key}
use Rattle.manifest.specs.Fault as line
use Rattle.manifest.specs.declared.field.Field.{Field}
use Rattle.manifest.specs.declared.field.Field.TheVariants.{Op, Version, Name, Cpu, Memory, Pods, Labels, Taints, Unschedulable, Uid, Priority, Containers, Init, Tolerations, Node, At, Ticket, Filters}
use Rattle.manifest.specs.declared.fault.LineFault.{LineFault}
use Rattle.manifest.specs.declared.fault.LineFault.TheVariants as line_fault
use Rattle.streams.specs.Fault as run
use Rattle.streams.specs.declared.fault.RunFault.{RunFault}
use Rattle.streams.specs.declared.fault.RunFault.TheVariants as run_fault
use Rattle.rules.specs.Trap as trap
use Rattle.rules.specs.declared.trap.Trap.{Trap}
use Rattle.rules.specs.declared.trap.Trap.TheVariants as traps
use Rattle.whost.specs.Refused as instance
use Rattle.whost.specs.declared.fault.InstanceFault.{InstanceFault}
use Rattle.whost.specs.declared.fault.InstanceFault.TheVariants as instance_fault
use Rattle.command.specs.Fault.{name_of}
use Rattle.command.specs.declared.fault.WordFault.{WordFault}
use Rattle.command.specs.declared.fault.WordFault.TheVariants as word_fault

-- the name of a line's fault
pub line_name_short : (fault : LineFault) → length (line.name_of fault) ≤ 10
line_name_short line_fault.NotJson = lit≤ tt
line_name_short (line_fault.BadField field) = lit≤ tt
line_name_short (line_fault.Quantity field) = lit≤ tt
line_name_short (line_fault.OverLimit field) = lit≤ tt
line_name_short line_fault.NoMemory = lit≤ tt

-- the key of a field
pub key_short : (field : Field) → length (key field) ≤ 13
unfolding key
key_short Op = lit≤ tt
key_short Version = lit≤ tt
key_short Name = lit≤ tt
key_short Cpu = lit≤ tt
key_short Memory = lit≤ tt
key_short Pods = lit≤ tt
key_short Labels = lit≤ tt
key_short Taints = lit≤ tt
key_short Unschedulable = lit≤ tt
key_short Uid = lit≤ tt
key_short Priority = lit≤ tt
key_short Containers = lit≤ tt
key_short Init = lit≤ tt
key_short Tolerations = lit≤ tt
key_short Node = lit≤ tt
key_short At = lit≤ tt
key_short Ticket = lit≤ tt
key_short Filters = lit≤ tt

-- the name of a run's fault
pub run_name_short : (fault : RunFault) → length (run.name_of fault) ≤ 10
run_name_short (run_fault.Line number fault) = lit≤ tt
run_name_short run_fault.NoMemory = lit≤ tt
run_name_short run_fault.Read = lit≤ tt
run_name_short run_fault.Write = lit≤ tt
run_name_short run_fault.NoPlace = lit≤ tt

-- the name of a word's fault
pub word_name_short : (fault : WordFault) → length (name_of fault) ≤ 10
word_name_short word_fault.BadWords = lit≤ tt
word_name_short word_fault.NoMemory = lit≤ tt

-- the name of a decoder's fault
pub bin_name_short : (fault : BinFault) → length (bin.name_of fault) ≤ 13
bin_name_short (bin_fault.Malformed kind place) = lit≤ tt
bin_name_short bin_fault.Float = lit≤ tt
bin_name_short bin_fault.NoMemory = lit≤ tt

-- the name of what is wrong with bytes
pub kind_name_short : (kind : Kind) → length (bin.kind_name kind) ≤ 13
kind_name_short kinds.Truncated = lit≤ tt
kind_name_short kinds.BadMagic = lit≤ tt
kind_name_short kinds.BadVersion = lit≤ tt
kind_name_short kinds.BadSection = lit≤ tt
kind_name_short kinds.BadNumber = lit≤ tt
kind_name_short kinds.BadType = lit≤ tt
kind_name_short kinds.BadOpcode = lit≤ tt
kind_name_short kinds.BadName = lit≤ tt
kind_name_short kinds.CountMismatch = lit≤ tt
kind_name_short kinds.TooDeep = lit≤ tt
kind_name_short kinds.TooLong = lit≤ tt

-- the name of a fault of typing
pub type_name_short : (fault : TypeFault) → length (type.name_of fault) ≤ 13
type_name_short (type_fault.Untyped function place) = lit≤ tt
type_name_short type_fault.BadImport = lit≤ tt
type_name_short type_fault.BadExport = lit≤ tt
type_name_short type_fault.OverLimit = lit≤ tt
type_name_short type_fault.NoMemory = lit≤ tt

-- the name of what keeps a module from being made an instance
pub instance_name_short : (fault : InstanceFault) → length (instance.name_of fault) ≤ 20
instance_name_short instance_fault.DataOutOfBounds = lit≤ tt
instance_name_short instance_fault.ElementOutOfBounds = lit≤ tt
instance_name_short (instance_fault.StartTrap why) = lit≤ tt
instance_name_short instance_fault.StartExhausted = lit≤ tt
instance_name_short instance_fault.NoMemory = lit≤ tt

-- the name of a trap
pub trap_name_short : (why : Trap) → length (trap.name_of why) ≤ 20
trap_name_short traps.Unreachable = lit≤ tt
trap_name_short traps.DivideByZero = lit≤ tt
trap_name_short traps.IntegerOverflow = lit≤ tt
trap_name_short traps.MemoryOutOfBounds = lit≤ tt
trap_name_short traps.UndefinedElement = lit≤ tt
trap_name_short traps.UninitializedElement = lit≤ tt
trap_name_short traps.SignatureMismatch = lit≤ tt
trap_name_short traps.CallDepth = lit≤ tt
trap_name_short traps.HostOutOfBounds = lit≤ tt
trap_name_short traps.NoRecord = lit≤ tt
