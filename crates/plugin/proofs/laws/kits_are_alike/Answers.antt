use Rattle.plugin.proofs.LawLemmas.{alike}
use Rattle.plugin.proofs.laws.kits_are_alike.Goals as goal

pub returns : goal.returns
returns c = alike c.one_image.ensures
