use Rattle.ledger.proofs.Sweeps.{SoFar}
use Rattle.ledger.specs.Lists.{of_nodes}
use Rattle.ledger.proofs.swept.sweep_nodes.Given as goal

abbrev pub invariant-loop-slot : goal.invariant-loop-slot
invariant-loop-slot l = SoFar of_nodes l.lists l.slot l.fn.nodes l.nodes l.fn.book l.book
