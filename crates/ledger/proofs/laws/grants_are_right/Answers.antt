use Rattle.ledger.proofs.Grants.{grants_right}
use Rattle.ledger.proofs.laws.grants_are_right.Goals as goal

pub returns : goal.returns
returns c = grants_right
