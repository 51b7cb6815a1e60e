use Rattle.command.proofs.SpecLemmas.{cut_is}
use Rattle.command.proofs.plugin_words.cut.Goals as goal

pub returns : goal.returns
returns c = cut_is c.args.text.now c.split_once.result c.split_once.ensures.cases
