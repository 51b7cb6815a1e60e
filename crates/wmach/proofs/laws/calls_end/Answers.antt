use Rattle.wmach.proofs.CallsEnd.{calls_end_is}
use Rattle.wmach.proofs.laws.calls_end.Goals as goal

pub returns : goal.returns
returns c = calls_end_is
