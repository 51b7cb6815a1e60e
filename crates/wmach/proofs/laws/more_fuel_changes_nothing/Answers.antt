use Rattle.wmach.proofs.CallsLeave.{more_fuel_changes_nothing_is}
use Rattle.wmach.proofs.laws.more_fuel_changes_nothing.Goals as goal

pub returns : goal.returns
returns c = more_fuel_changes_nothing_is
