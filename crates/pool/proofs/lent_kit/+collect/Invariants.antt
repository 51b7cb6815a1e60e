use Rattle.std.proofs.Common.{length}
use Rattle.pool.proofs.lent_kit.+collect.Given as goal

abbrev pub decreases-collect : goal.decreases-collect
decreases-collect g l = length l.helpers.now
