use Rattle.wmem.proofs.LawProofs.{written_in_place}
use Rattle.wmem.proofs.laws.writes_stay_in_place.Goals as goal

pub returns : goal.returns
returns c = written_in_place
