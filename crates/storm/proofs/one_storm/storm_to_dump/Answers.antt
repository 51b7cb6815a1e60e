use Rattle.std.proofs.Common.{◌+◌, ◌∷◌, [], length, ap, ◌∙◌, arith}
use Rattle.desk.specs.Shared.{Desk}
use Rattle.crew.proofs.Enlisting.{enlisted_passes, some_enlisted}
use Rattle.storm.proofs.Ending.{ended}
use Rattle.storm.proofs.one_storm.storm_to_dump.Goals as goal

-- there is a cycle pass for each decider
pub work_and_dump-requires-clause-some : goal.work_and_dump-requires-clause-some
work_and_dump-requires-clause-some g c κs within = some_enlisted 2 c.args.deciders.items _ (c.as_mut_slice-2.ensures.value ∙ c.in_ok-hands.ensures.cyclers) c.requires.some

-- and there are feeders
pub work_and_dump-requires-clause-some_feeder : goal.work_and_dump-requires-clause-some_feeder
work_and_dump-requires-clause-some_feeder g c κs within = some_enlisted 0 (tt ∷ tt ∷ []) _ (c.as_mut_slice.ensures.value ∙ c.in_ok-hands.ensures.feeders) (omega arith)

-- all passes were handed out by this desk
pub work_and_dump-requires-clause-feeders : goal.work_and_dump-requires-clause-feeders
work_and_dump-requires-clause-feeders g c κs within =
    let handed = ap (λ (d : Desk). d.handed) c.in_ok-hands.ensures.handed in
    enlisted_passes c.hand_out.new.desk 0 (tt ∷ tt ∷ []) _ (c.as_mut_slice.ensures.value ∙ c.in_ok-hands.ensures.feeders) (omega (arith, handed))

pub work_and_dump-requires-clause-cyclers : goal.work_and_dump-requires-clause-cyclers
work_and_dump-requires-clause-cyclers g c κs within =
    let handed = ap (λ (d : Desk). d.handed) c.in_ok-hands.ensures.handed in
    enlisted_passes c.hand_out.new.desk 2 c.args.deciders.items _ (c.as_mut_slice-2.ensures.value ∙ c.in_ok-hands.ensures.cyclers) (omega (arith, handed))

pub work_and_dump-requires-clause-reporters : goal.work_and_dump-requires-clause-reporters
work_and_dump-requires-clause-reporters g c κs within =
    let handed = ap (λ (d : Desk). d.handed) c.in_ok-hands.ensures.handed in
    enlisted_passes c.hand_out.new.desk (2 + length c.args.deciders.items) c.args.binders.items _ (c.as_mut_slice-3.ensures.value ∙ c.in_ok-hands.ensures.reporters) (omega (arith, handed))

-- so they did what a storm promises
pub returns-clause-ended : goal.returns-clause-ended
returns-clause-ended g c =
    let h = c.in_ok-hands.hands in
    let is = c.in_ok-hands.ensures in
    ended g.D.Kit.Rules.answers g.D.Decider.kits c.args.steps.now c.args.deciders.items c.args.binders.items c.in-Ok.counts c.in-Ok.shown c.work_and_dump.new.clerk
    c.hand_out.new.desk h.clerk c.as_mut_slice.result.now c.as_mut_slice-2.result.now c.as_mut_slice-3.result.now c.requires.some
    (is.handed ∙ ap (λ (d : Desk). record d { handed = 2 + length c.args.deciders.items + length c.args.binders.items + 1 }) c.requires.new)
    is.clerk (c.as_mut_slice.ensures.value ∙ is.feeders) (c.as_mut_slice-2.ensures.value ∙ is.cyclers) (c.as_mut_slice-3.ensures.value ∙ is.reporters) c.in-Ok.ensures
