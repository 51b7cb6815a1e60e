use Rattle.storm.specs.inside.Stages.{HasScheduled}
use Rattle.storm.proofs.Staging.{left_one}
use Rattle.storm.proofs.stages.cycle_all.Goals as goal

-- each did what its closure tells
pub returns : goal.returns
returns g c = (c.for_each_mut.auto.s, λ i d lt. let at = (c.for_each_mut.ensures i d lt).1 in left_one (HasScheduled g.D.Kit.Rules.answers g.D.Decider.kits c.args.stage.now.desk.now) _ _ _ _ at.argument_is at.left at.call)
