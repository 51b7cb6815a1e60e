use Rattle.std.proofs.Common.{rules}
use Rattle.queued.proofs.state.State.is_in_flight_for.Goals as goal

-- `search rules` is found without this file too: with it, a wrong body that is tried here is
-- refused without a second run
pub returns-in-InFlight : goal.returns-in-InFlight
returns-in-InFlight c = search rules
