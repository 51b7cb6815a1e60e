use Rattle.std.proofs.Common.{◌≡◌, ◌<◌, false, true, length, sym, subst, ◌∙◌, rules}
use Rattle.std.specs.Option.{IsSome}
use Rattle.storm.specs.inside.Stages.{HasFed, HasScheduled}
use Rattle.storm.proofs.Staging.{have_worked, left_passes, still_passes}
use Rattle.storm.proofs.stages.schedule.Goals as goal

-- what the option held was taken
pub returns-in_default : goal.returns-in_default
returns-in_default g c =
    let no : false ≡ true = subst IsSome (sym c.take.ensures.value ∙ c.in_default.is) c.requires.sender in
    absurd (cc)

-- the first cycle pass is still of this desk
pub finish-requires-clause-first : goal.finish-requires-clause-first
finish-requires-clause-first g c κs within =
    let of = still_passes c.args.stage.now.desk.now (HasScheduled g.D.Kit.Rules.answers g.D.Decider.kits c.args.stage.now.desk.now) (λ w w' turned. turned.number) c.args.cyclers.now c.join_mut.new.f.3.now
    c.requires.cyclers c.join_mut.ensures.0.met.1 in
    let some : 0 < length c.join_mut.new.f.3.now = subst (λ n. 0 < n) (sym c.join_mut.ensures.0.met.1.0) c.requires.some in
    search (rules, of 0 c.index-cyclers-0.result some)

-- the feeders' passes are still of this desk
pub finish-requires-clause-feeders : goal.finish-requires-clause-feeders
finish-requires-clause-feeders g c κs within =
    left_passes c.args.stage.now.desk.now (HasFed c.args.stage.now.steps.now) (λ w w' fed. fed.number) c.args.feeders.now c.join_mut.new.g.2.now _
    c.requires.feeders (search rules) c.join_mut.ensures.1.met.1

-- the feeders were met when they had ended, and the first cycle pass went on alone, up to where it
-- found no pod
pub returns : goal.returns
returns g c =
    have_worked g.D.Kit.Rules.answers g.D.Decider.kits c.args.stage.now.desk.now c.args.cyclers.now c.join_mut.new.f.3.now _ c.index-cyclers-0.result c.finish.new.first
    _ c.finish.new.feeders c.finish.ensures c.requires.some (search rules) c.join_mut.ensures.0.met.1
    c.args.stage.now.steps.now c.args.feeders.now c.join_mut.new.g.2.now (search rules) c.requires.some_feeder c.join_mut.ensures.1.met.1
