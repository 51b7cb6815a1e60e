use Rattle.wmach.proofs.CallsLeave.{cost_within_fuel_is}
use Rattle.wmach.proofs.laws.cost_within_fuel.Goals as goal

pub returns : goal.returns
returns c = cost_within_fuel_is
