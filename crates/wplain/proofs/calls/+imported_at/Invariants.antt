use Rattle.std.proofs.Common.{length}
use Rattle.wplain.proofs.calls.+imported_at.Given as goal

abbrev pub decreases-imported_at : goal.decreases-imported_at
decreases-imported_at l = length l.imports.now
