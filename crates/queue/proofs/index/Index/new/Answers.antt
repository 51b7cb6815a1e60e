use Rattle.queue.proofs.Indexes.{empty_index}
use Rattle.queue.proofs.index.Index.new.Goals as goal

pub returns : goal.returns
returns c = empty_index c.args.room c.in-Ok.active c.in-Ok-new.backoff c.in-Ok-new-2.unschedulable c.in-Ok-new-3.unmarked c.in-Ok.ensures c.in-Ok-new.ensures c.in-Ok-new-2.ensures c.in-Ok-new-3.ensures
