use Rattle.std.proofs.Common.{rules}
use Rattle.queue.proofs.heap.order_of.Goals as goal

-- `search rules` is found without this file too: with it, a wrong body that is tried here is
-- refused without a second run
pub returns : goal.returns
returns c = search rules
