use Rattle.wmach.proofs.Chains.{never_stuck_is}
use Rattle.wmach.proofs.laws.never_stuck.Goals as goal

pub returns : goal.returns
returns c = never_stuck_is
