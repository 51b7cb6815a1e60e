use Rattle.queue.proofs.Runs as runs
use Rattle.queue.proofs.laws.pops_once.Goals as goal

pub returns : goal.returns
returns c = runs.pops_once
