use Rattle.wcode.proofs.Longer.{blocks_longer}
use Rattle.wcode.proofs.laws.blocks_stay.Goals as goal

pub returns : goal.returns
returns c = λ bytes begin after body blocks more a b h. blocks_longer bytes begin after body blocks more a b h
