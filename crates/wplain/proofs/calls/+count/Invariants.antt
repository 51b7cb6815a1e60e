use Rattle.std.proofs.Common.{length}
use Rattle.wplain.proofs.calls.+count.Given as goal

abbrev pub decreases-count : goal.decreases-count
decreases-count l = length l.imports.now
