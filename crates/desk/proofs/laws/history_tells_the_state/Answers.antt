use Rattle.desk.proofs.Readings.{nodes_told, places_told}
use Rattle.desk.proofs.laws.history_tells_the_state.Goals as goal

pub returns-clause-nodes : goal.returns-clause-nodes
returns-clause-nodes c = nodes_told

pub returns-clause-places : goal.returns-clause-places
returns-clause-places c = places_told
