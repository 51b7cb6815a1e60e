use Rattle.command.proofs.MisuseLemmas.{at_equals_is}
use Rattle.command.proofs.misuse.at_equals.Goals as goal

pub returns : goal.returns
returns c = at_equals_is c.args.text.now c.split_once.result c.split_once.ensures.cases
