use Rattle.queue.proofs.Next as next
use Rattle.queue.proofs.laws.pops_the_first.Goals as goal

pub returns : goal.returns
returns c = record { first = next.pops_the_first; only = next.only_one_is_next }
