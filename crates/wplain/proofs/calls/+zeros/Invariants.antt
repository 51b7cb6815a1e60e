use Rattle.std.proofs.Common.{length}
use Rattle.wplain.proofs.calls.+zeros.Given as goal

abbrev pub decreases-zeros : goal.decreases-zeros
decreases-zeros l = length l.types.now
