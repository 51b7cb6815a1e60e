-- An instruction's faults among those of bytes.
use Rattle.wcode.specs.declared.fault.OpFault.{OpFault}
use Rattle.wcode.specs.declared.fault.OpFault.TheVariants as op
use Rattle.wcode.specs.declared.fault.BinFault.{BinFault}
use Rattle.wcode.specs.declared.fault.BinFault.TheVariants as bin

-- the same fault, where memory may be wanting too
abbrev pub whole : OpFault → BinFault
whole (op.Malformed kind place) = bin.Malformed kind place
whole op.Float = bin.Float
