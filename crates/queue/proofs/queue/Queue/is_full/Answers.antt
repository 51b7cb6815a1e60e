use Rattle.std.proofs.Common.{subst}
use Rattle.queue.specs.Queue.{IsQueue}
use Rattle.queue.proofs.States.{is_queue}
use Rattle.queue.proofs.queue.Queue.is_full.Goals as goal

pub returns-clause-shape : goal.returns-clause-shape
returns-clause-shape c = subst IsQueue c.self.view_is (is_queue c.self.inside.pods c.self.inside.index c.self.inside.compared c.self.invariant)
