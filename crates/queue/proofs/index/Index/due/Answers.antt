use Rattle.queue.proofs.Changes.{none_due, none_weaker}
use Rattle.queue.proofs.index.Index.due.Goals as goal

pub returns-in-None-clause-none : goal.returns-in-None-clause-none
returns-in-None-clause-none c =
    none_weaker (none_due c.args.now c.args.pods.now c.args.self.now c.requires c.in-None.ensures.none) c.due_in-in-None.result c.due_in-in-None.ensures.none
