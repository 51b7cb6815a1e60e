use Rattle.std.proofs.Common.{◌≡◌, length}
use Rattle.pool.proofs.lent_kit.send_all.Given as goal

abbrev pub invariant-loop-at : goal.invariant-loop-at
invariant-loop-at g l = length l.helpers ≡ length l.initial.helpers
