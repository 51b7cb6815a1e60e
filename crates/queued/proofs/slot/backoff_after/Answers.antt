use Rattle.std.proofs.Common.{◌-◌}
use Rattle.queued.proofs.BackoffLemmas.{shifted_backoff}
use Rattle.queued.proofs.slot.backoff_after.Goals as goal

pub returns-clause-length : goal.returns-clause-length
returns-clause-length c = shifted_backoff (c.args.attempts - 1) c.min-doublings.result c.min.result (cc) c.min.ensures
