use Rattle.std.proofs.Common.{rules}
use Rattle.choose.proofs.First.{shown_name}
use Rattle.choose.proofs.choice.name_of.Goals as goal

pub returns : goal.returns
returns c = rw (shown_name c.args.rows.now c.args.at c.index-rows-at.result c.requires c.index-rows-at.is) (search rules)
