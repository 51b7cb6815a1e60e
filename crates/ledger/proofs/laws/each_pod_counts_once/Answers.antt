use Rattle.ledger.proofs.Counting.{always_once}
use Rattle.ledger.proofs.laws.each_pod_counts_once.Goals as goal

pub returns : goal.returns
returns c = always_once
