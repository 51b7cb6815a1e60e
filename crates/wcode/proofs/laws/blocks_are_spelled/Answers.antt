use Rattle.wcode.proofs.BlockLists.{blocks_spell}
use Rattle.wcode.proofs.laws.blocks_are_spelled.Goals as goal

pub returns : goal.returns
returns c = blocks_spell
