use Rattle.std.proofs.Common.{length}
use Rattle.wplain.proofs.calls.+type_from.Given as goal

abbrev pub decreases-type_from : goal.decreases-type_from
decreases-type_from l = length l.imports.now
