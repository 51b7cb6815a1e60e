use Rattle.std.proofs.Common.{◌≤◌, take}
use Rattle.std.specs.List.{AllByRecursion}
use Rattle.wmodule.specs.declared.module.Limits.{Limits}
use Rattle.wtype.proofs.limits.are_small.Given as goal

-- those so far are small
abbrev pub invariant-loop-limits : goal.invariant-loop-limits
invariant-loop-limits l = AllByRecursion (λ (x : Limits). x.least ≤ l.most) (take l.limits-index l.all)
