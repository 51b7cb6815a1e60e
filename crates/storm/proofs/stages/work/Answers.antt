use Rattle.std.proofs.Common.{rules}
use Rattle.storm.specs.inside.Stages.{HasReported}
use Rattle.storm.proofs.Staging.{left, left_worked}
use Rattle.storm.proofs.stages.work.Goals as goal

-- ---- what each of both sides did, as its closure tells it

pub returns-clause-worked : goal.returns-clause-worked
returns-clause-worked g c =
    left_worked g.D.Kit.Rules.answers g.D.Decider.kits c.args.stage.now.desk.now c.args.stage.now.steps.now c.args.feeders.now c.join_mut.new.g.3.now _
    c.args.cyclers.now c.join_mut.new.g.4.now _ (search rules) (search rules) c.join_mut.ensures.1.met.1

pub returns-clause-reported : goal.returns-clause-reported
returns-clause-reported g c = left HasReported c.args.reporters.now c.join_mut.new.f.3.now _ (search rules) c.join_mut.ensures.0.met.1
