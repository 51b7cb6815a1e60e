use Rattle.ledger.proofs.Keeping.{keeps_each}
use Rattle.ledger.proofs.laws.each_pod_is_kept.Goals as goal

pub returns : goal.returns
returns c = keeps_each
