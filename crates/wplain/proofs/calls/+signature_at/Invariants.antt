use Rattle.std.proofs.Common.{length}
use Rattle.wplain.proofs.calls.+signature_at.Given as goal

abbrev pub decreases-signature_at : goal.decreases-signature_at
decreases-signature_at l = length l.functions.now
