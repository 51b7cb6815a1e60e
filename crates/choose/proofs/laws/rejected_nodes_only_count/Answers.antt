use Rattle.choose.proofs.Uncounted.{rejected_only_count}
use Rattle.choose.proofs.laws.rejected_nodes_only_count.Goals as goal

pub returns : goal.returns
returns c = rejected_only_count
