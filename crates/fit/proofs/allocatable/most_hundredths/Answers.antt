use Rattle.fit.proofs.Factor.{guess_enough}
use Rattle.fit.proofs.allocatable.most_hundredths.Goals as goal

pub returns-then-whole-clause-value : goal.returns-then-whole-clause-value
returns-then-whole-clause-value c = guess_enough c.args.part c.args.whole c.args.factor c.requires.some c.if-whole.true c.requires.factor
