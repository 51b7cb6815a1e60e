use Rattle.std.proofs.Common.{ap}
use Rattle.wstore.specs.State.{StoreState}
use Rattle.wmach.proofs.Keeping.{still_machine}
use Rattle.wmach.proofs.machine.Machine.keep.Goals as goal

pub invariant_of-self : goal.invariant_of-self
invariant_of-self c = still_machine c.self.inside c.keep.new.self c.self.invariant (ap (λ (x : StoreState). x.checked) c.keep.ensures)
