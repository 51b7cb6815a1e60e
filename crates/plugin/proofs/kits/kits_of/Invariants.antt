use Rattle.std.proofs.Common.{◌-◌, ◌≤◌, All, vec_len}
use Rattle.plugin.specs.Kit.{IsKitOf}
use Rattle.plugin.proofs.kits.kits_of.Given as goal

-- each kit so far is one of the plugins
abbrev pub invariant-loop-alloc : goal.invariant-loop-alloc
invariant-loop-alloc l = (vec_len l.kits ≤ l.many) × All (IsKitOf l.plugins) l.kits.items

abbrev pub decreases-loop-alloc : goal.decreases-loop-alloc
decreases-loop-alloc l = l.many - vec_len l.kits
