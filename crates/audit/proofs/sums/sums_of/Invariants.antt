use Rattle.std.proofs.Common.{take}
use Rattle.audit.specs.inside.Audit.{IsSumOf}
use Rattle.audit.proofs.sums.sums_of.Given as goal

-- the table has what the slots so far add up to
abbrev pub invariant-loop-slot : goal.invariant-loop-slot
invariant-loop-slot l = IsSumOf (take l.slot-index l.slots) l.sums
