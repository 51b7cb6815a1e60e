use Rattle.engine.proofs.Explained.{explained_output, plain_output}
use Rattle.engine.proofs.laws.explained_output.Goals as goal

pub returns-clause-explained : goal.returns-clause-explained
returns-clause-explained g c = explained_output _

pub returns-clause-plain : goal.returns-clause-plain
returns-clause-plain g c = plain_output _ (g.met.K.Rules.say_one_thing c.args._kit.now)
