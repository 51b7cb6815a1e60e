use Rattle.wmach.proofs.CallsLeave.{what_a_call_leaves_is}
use Rattle.wmach.proofs.laws.what_a_call_leaves.Goals as goal

pub returns : goal.returns
returns c = what_a_call_leaves_is
