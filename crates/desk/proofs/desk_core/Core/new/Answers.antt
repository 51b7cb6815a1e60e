use Rattle.std.proofs.Common.{refl, replicate, arith}
use Rattle.desk.specs.declared.limits.TheConstants.{MAX_PASSES}
use Rattle.desk.proofs.desk_core.Core.new.Goals as goal

pub invariant_of-result : goal.invariant_of-result
invariant_of-result c = (refl, omega arith)

-- nothing was done
pub returns-in-Ok-new : goal.returns-in-Ok-new
returns-in-Ok-new c = λ i. record { state = record { cluster = c.in-Ok.ensures i; queue = c.in-Ok-new.ensures i; clock = record { 0 = 0 }; calls = replicate MAX_PASSES 0 } }
