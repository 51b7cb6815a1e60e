use Rattle.choose.proofs.OneDecision.{one_decision}
use Rattle.choose.proofs.laws.one_decision.Goals as goal

pub returns : goal.returns
returns g c = λ nodes pod one other own a b. one_decision _ nodes pod one other (g.met.R.Rules.say_one_thing c.args._rules.now) own a b
