use Rattle.engine.proofs.Explained.{asking_changes_nothing}
use Rattle.engine.proofs.laws.asking_changes_nothing.Goals as goal

pub returns : goal.returns
returns g c = asking_changes_nothing _
