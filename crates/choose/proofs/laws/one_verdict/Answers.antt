use Rattle.choose.proofs.OneVerdict.{one_ruling, one_verdict}
use Rattle.choose.proofs.laws.one_verdict.Goals as goal

pub returns-clause-verdict : goal.returns-clause-verdict
returns-clause-verdict g c = λ pod shown one other a b. one_verdict _ pod shown one other (g.met.R.Rules.say_one_thing c.args._rules.now) a b

pub returns-clause-ruling : goal.returns-clause-ruling
returns-clause-ruling g c = λ filters_alone pod shown one other a b. one_ruling filters_alone _ pod shown one other (g.met.R.Rules.say_one_thing c.args._rules.now) a b
