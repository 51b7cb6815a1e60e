use Rattle.std.proofs.Common.{take}
use Rattle.std.specs.List.{AllByRecursion}
use Rattle.wtype.specs.Accepted.{LimitsRight}
use Rattle.wtype.proofs.limits.are_right.Given as goal

-- those so far are right
abbrev pub invariant-loop-limits : goal.invariant-loop-limits
invariant-loop-limits l = AllByRecursion (LimitsRight l.range) (take l.limits-index l.all)
