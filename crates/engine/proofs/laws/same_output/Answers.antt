use Rattle.engine.proofs.SameOutput.{same_output}
use Rattle.engine.proofs.laws.same_output.Goals as goal

pub returns : goal.returns
returns g c = same_output _ _ _
