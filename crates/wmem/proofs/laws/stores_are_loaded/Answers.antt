use Rattle.wmem.proofs.LawProofs.{stored_are_loaded}
use Rattle.wmem.proofs.laws.stores_are_loaded.Goals as goal

pub returns : goal.returns
returns c = stored_are_loaded
