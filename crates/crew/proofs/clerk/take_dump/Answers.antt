use Rattle.std.proofs.Common.{ap, ◌∙◌}
use Rattle.desk.specs.Caller.{Caller}
use Rattle.desk.specs.Shared.{Pass}
use Rattle.crew.proofs.Meeting.{counts_stay, dumped, looks_stay, met_stay, met_stays}
use Rattle.crew.proofs.clerk.take_dump.Goals as goal

-- ---- all are passes of the desk whenever they meet

pub meet_each-requires-clause-workers : goal.meet_each-requires-clause-workers
meet_each-requires-clause-workers g c = c.requires.feeders

pub meet_each-requires-2-clause-workers : goal.meet_each-requires-2-clause-workers
meet_each-requires-2-clause-workers g c = c.requires.cyclers

pub meet_each-requires-3-clause-workers : goal.meet_each-requires-3-clause-workers
meet_each-requires-3-clause-workers g c = c.requires.reporters

pub meet_each-requires-2-clause-clerk : goal.meet_each-requires-2-clause-clerk
meet_each-requires-2-clause-clerk g c = met_stays _ _ _ _ _ c.meet_each.ensures c.requires.clerk

pub meet_each-requires-3-clause-clerk : goal.meet_each-requires-3-clause-clerk
meet_each-requires-3-clause-clerk g c = met_stays _ _ _ _ _ c.meet_each-2.ensures (met_stays _ _ _ _ _ c.meet_each.ensures c.requires.clerk)

pub count-requires : goal.count-requires
count-requires g c = met_stays _ _ _ _ _ c.meet_each-3.ensures (met_stays _ _ _ _ _ c.meet_each-2.ensures (met_stays _ _ _ _ _ c.meet_each.ensures c.requires.clerk))

pub look-requires : goal.look-requires
look-requires g c =
    let met = met_stays _ _ _ _ _ c.meet_each-3.ensures (met_stays _ _ _ _ _ c.meet_each-2.ensures (met_stays _ _ _ _ _ c.meet_each.ensures c.requires.clerk)) in
    record { of = counts_stay _ _ _ _ _ c.in-Ok.ensures.counted met }

pub meet_each-requires-4-clause-clerk : goal.meet_each-requires-4-clause-clerk
meet_each-requires-4-clause-clerk g c =
    let met = met_stays _ _ _ _ _ c.meet_each-3.ensures (met_stays _ _ _ _ _ c.meet_each-2.ensures (met_stays _ _ _ _ _ c.meet_each.ensures c.requires.clerk)) in
    looks_stay _ _ _ _ c.in-Ok-look.ensures.looked (counts_stay _ _ _ _ _ c.in-Ok.ensures.counted met)

pub meet_each-requires-5-clause-clerk : goal.meet_each-requires-5-clause-clerk
meet_each-requires-5-clause-clerk g c =
    let met = met_stays _ _ _ _ _ c.meet_each-3.ensures (met_stays _ _ _ _ _ c.meet_each-2.ensures (met_stays _ _ _ _ _ c.meet_each.ensures c.requires.clerk)) in
    met_stays _ _ _ _ _ c.meet_each-4.ensures (looks_stay _ _ _ _ c.in-Ok-look.ensures.looked (counts_stay _ _ _ _ _ c.in-Ok.ensures.counted met))

pub meet_each-requires-6-clause-clerk : goal.meet_each-requires-6-clause-clerk
meet_each-requires-6-clause-clerk g c =
    let met = met_stays _ _ _ _ _ c.meet_each-3.ensures (met_stays _ _ _ _ _ c.meet_each-2.ensures (met_stays _ _ _ _ _ c.meet_each.ensures c.requires.clerk)) in
    met_stays _ _ _ _ _ c.meet_each-5.ensures (met_stays _ _ _ _ _ c.meet_each-4.ensures (looks_stay _ _ _ _ c.in-Ok-look.ensures.looked (counts_stay _ _ _ _ _ c.in-Ok.ensures.counted met)))

pub meet_each-requires-4-clause-workers : goal.meet_each-requires-4-clause-workers
meet_each-requires-4-clause-workers g c = met_stay _ _ _ _ _ c.meet_each.ensures c.requires.feeders

pub meet_each-requires-5-clause-workers : goal.meet_each-requires-5-clause-workers
meet_each-requires-5-clause-workers g c = met_stay _ _ _ _ _ c.meet_each-2.ensures c.requires.cyclers

pub meet_each-requires-6-clause-workers : goal.meet_each-requires-6-clause-workers
meet_each-requires-6-clause-workers g c = met_stay _ _ _ _ _ c.meet_each-3.ensures c.requires.reporters

-- what each of the others had made when it was met first is all that it made
pub returns-clause-dumped : goal.returns-clause-dumped
returns-clause-dumped g c =
    dumped c.args.desk.now
    c.args.clerk.now c.meet_each.new.clerk c.meet_each-2.new.clerk c.meet_each-3.new.clerk c.count.new.pass c.look.new.pass c.meet_each-4.new.clerk c.meet_each-5.new.clerk c.meet_each-6.new.clerk
    c.args.feeders.now c.meet_each.new.workers c.meet_each-4.new.workers
    c.args.cyclers.now c.meet_each-2.new.workers c.meet_each-5.new.workers
    c.args.reporters.now c.meet_each-3.new.workers c.meet_each-6.new.workers
    c.in-Ok.counts c.in-Ok-look.shown
    c.meet_each.ensures c.meet_each-2.ensures c.meet_each-3.ensures c.in-Ok.ensures.counted c.in-Ok-look.ensures.looked c.meet_each-4.ensures c.meet_each-5.ensures c.meet_each-6.ensures

pub returns-clause-number : goal.returns-clause-number
returns-clause-number g c = (returns-clause-dumped g c).number

-- ---- who met others and counted keeps its number

pub returns-in_default-clause-number : goal.returns-in_default-clause-number
returns-in_default-clause-number g c =
    ap (λ (p : Pass). p.caller.number) c.in_default.ensures.err
    ∙ ap (λ (k : Caller). k.number) (c.meet_each-3.ensures.caller ∙ c.meet_each-2.ensures.caller ∙ c.meet_each.ensures.caller)

pub returns-in_default-look-clause-number : goal.returns-in_default-look-clause-number
returns-in_default-look-clause-number g c =
    ap (λ (p : Pass). p.caller.number) c.in_default-look.ensures.err
    ∙ ap (λ (k : Caller). k.number) c.in-Ok.ensures.counted.counted
    ∙ ap (λ (k : Caller). k.number) (c.meet_each-3.ensures.caller ∙ c.meet_each-2.ensures.caller ∙ c.meet_each.ensures.caller)
