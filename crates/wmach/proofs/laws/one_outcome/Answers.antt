use Rattle.wmach.proofs.OneEnd.{one_outcome_is}
use Rattle.wmach.proofs.laws.one_outcome.Goals as goal

pub returns : goal.returns
returns c = one_outcome_is
