use Rattle.ledger.proofs.Sweeps.{SoFar}
use Rattle.ledger.specs.Lists.{of_pods}
use Rattle.ledger.proofs.swept.sweep_pods.Given as goal

abbrev pub invariant-loop-slot : goal.invariant-loop-slot
invariant-loop-slot l = SoFar of_pods l.lists l.slot l.fn.pods l.pods l.fn.book l.book
