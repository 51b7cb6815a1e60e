use Rattle.ledger.proofs.Worlds.{never_over}
use Rattle.ledger.proofs.laws.never_overfull.Goals as goal

pub returns : goal.returns
returns c = never_over
