use Rattle.std.proofs.lemmas.Result.{IfOk-weaker}
use Rattle.storm.specs.inside.Stages.{HasFed, HasReported, HasScheduled}
use Rattle.storm.proofs.Staging.{still_passes}
use Rattle.storm.proofs.one_storm.work_and_dump.Goals as goal

-- ---- all passes are still of this desk

pub take_dump-requires-clause-feeders : goal.take_dump-requires-clause-feeders
take_dump-requires-clause-feeders g c =
    still_passes c.args.desk.now (HasFed c.args.steps.now) (λ w w' fed. fed.number) c.args.feeders.now c.work.new.feeders c.requires.feeders c.work.ensures.worked.fed

pub take_dump-requires-clause-cyclers : goal.take_dump-requires-clause-cyclers
take_dump-requires-clause-cyclers g c =
    still_passes c.args.desk.now (HasScheduled g.D.Kit.Rules.answers g.D.Decider.kits c.args.desk.now) (λ w w' turned. turned.number) c.args.cyclers.now c.work.new.cyclers c.requires.cyclers c.work.ensures.worked.turned

pub take_dump-requires-clause-reporters : goal.take_dump-requires-clause-reporters
take_dump-requires-clause-reporters g c =
    still_passes c.args.desk.now HasReported (λ w w' reported. reported.number) c.args.reporters.now c.work.new.reporters c.requires.reporters c.work.ensures.reported

-- all worked, and were dumped
pub returns : goal.returns
returns g c =
    IfOk-weaker c.take_dump.result _ _ (λ dump is. record {
      feeders' = c.work.new.feeders;
      cyclers' = c.work.new.cyclers;
      reporters' = c.work.new.reporters;
      told = c.work.ensures.worked.fed;
      turned = c.work.ensures.worked.turned;
      idle = c.work.ensures.worked.idle;
      reported = c.work.ensures.reported;
      all_told = c.all_done.ensures.0 c.if-not-all_done.false;
      all_turned = c.all_done-else-not-all_done.ensures.0 c.if-not-all_done-2.false;
      all_reported = c.all_done-else-not-all_done-2.ensures.0 c.if-not-all_done-3.false;
      dumped = is;
    }) c.take_dump.ensures.dumped
