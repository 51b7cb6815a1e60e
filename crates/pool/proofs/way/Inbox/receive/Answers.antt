use Rattle.pool.proofs.Ruled.{may_be_received, nothing_learned}
use Rattle.pool.proofs.way.Inbox.receive.Goals as goal

pub recv_as-requires-clause-rule : goal.recv_as-requires-clause-rule
recv_as-requires-clause-rule g c = (may_be_received g.H.Holds.of _, nothing_learned g.H.Holds.of _)
