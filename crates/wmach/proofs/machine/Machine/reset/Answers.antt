use Rattle.std.proofs.Common.{ap}
use Rattle.wstore.specs.State.{StoreState}
use Rattle.wmach.proofs.Keeping.{still_machine}
use Rattle.wmach.proofs.machine.Machine.reset.Goals as goal

pub invariant_of-self : goal.invariant_of-self
invariant_of-self c = still_machine c.self.inside c.reset.new.self c.self.invariant (ap (λ (x : StoreState). x.checked) c.reset.ensures)
