use Rattle.queue.proofs.Runs as runs
use Rattle.queue.proofs.laws.ticks_once.Goals as goal

pub returns : goal.returns
returns c = runs.ticks_once
