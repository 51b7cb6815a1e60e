use Rattle.live.proofs.Once.{one_live_output, fronts_begin}
use Rattle.live.proofs.laws.one_live_output.Goals as goal

pub returns-clause-one : goal.returns-clause-one
returns-clause-one g c = one_live_output _ (g.met.K.Rules.say_one_thing c.args._kit.now)

pub returns-clause-front : goal.returns-clause-front
returns-clause-front g c = fronts_begin _ (g.met.K.Rules.say_one_thing c.args._kit.now)
