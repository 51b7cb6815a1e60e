use Rattle.queue.proofs.Runs as runs
use Rattle.queue.proofs.laws.loses_none.Goals as goal

pub returns : goal.returns
returns c = runs.loses_none
