use Rattle.whost.proofs.InstanceLemmas.{agreement}
use Rattle.whost.proofs.laws.calls_agree.Goals as goal

pub returns : goal.returns
returns c = agreement c.one_outcome.ensures
