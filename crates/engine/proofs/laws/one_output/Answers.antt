use Rattle.engine.proofs.Fronts.{fronts_begin_output, fronts_agree}
use Rattle.engine.proofs.OneOutput.{one_output}
use Rattle.engine.proofs.laws.one_output.Goals as goal

pub returns-clause-whole : goal.returns-clause-whole
returns-clause-whole g c = one_output _ (g.met.K.Rules.say_one_thing c.args._kit.now)

pub returns-clause-front : goal.returns-clause-front
returns-clause-front g c = fronts_begin_output _ (g.met.K.Rules.say_one_thing c.args._kit.now)

pub returns-clause-fronts : goal.returns-clause-fronts
returns-clause-fronts g c = fronts_agree _ (g.met.K.Rules.say_one_thing c.args._kit.now)
