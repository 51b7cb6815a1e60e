use Rattle.std.proofs.Common.{subst}
use Rattle.desk.specs.Shared.{Desk, Closed}
use Rattle.desk.proofs.desk.Desk.close.Goals as goal

-- it is closed as what lies under its lock
pub returns-in-Some : goal.returns-in-Some
returns-in-Some g c = subst (λ (d : Desk). Closed d c.args.pass.now c.close.new.pass c.close.result) c.self.view_is c.close.ensures
