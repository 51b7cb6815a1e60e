use Rattle.desk.proofs.Counting.{in_flight_is_unanswered}
use Rattle.desk.proofs.laws.in_flight_is_unanswered.Goals as goal

pub returns : goal.returns
returns c = in_flight_is_unanswered
