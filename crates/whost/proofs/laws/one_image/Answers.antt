use Rattle.whost.proofs.ImageLemmas.{same_image, no_refusal}
use Rattle.whost.proofs.laws.one_image.Goals as goal

pub returns : goal.returns
returns c = record { same = same_image c.one_outcome.ensures; whole = no_refusal c.one_outcome.ensures }
