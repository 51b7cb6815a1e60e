use Rattle.std.proofs.Common.{length, refl}
use Rattle.choose.specs.Kits.{rules_of}
use Rattle.streams.specs.Device.{use_of}
use Rattle.streams.proofs.Greatest.{limits_same}
use Rattle.storm.proofs.Ending.{none_failed, run_from, unread}
use Rattle.storm.proofs.one_storm.storm.Goals as goal

-- the program's limits are the greatest
pub storm_on-requires-clause-greatest : goal.storm_on-requires-clause-greatest
storm_on-requires-clause-greatest g c κs within =
    let greatest = c.greatest.ensures in
    limits_same c.greatest.result greatest.nodes greatest.placed greatest.queued

-- the script wasn't read
pub returns-in-Err : goal.returns-in-Err
returns-in-Err g c =
    let told = c.in-Err.ensures in
    unread (λ d. rules_of g.D.Kit.Rules.answers (g.D.Decider.kits d)) c.args.deciders.items (length c.args.binders.items)
    (use_of g.S.Source.remaining g.S.Source.failure_count c.args.source.now c.read_script.new.source) (use_of g.W.Sink.written g.W.Sink.failure_count c.args.sink.now c.args.sink.now)
    _ told.line told.failed told.told told.no_write refl refl

-- the script was read whole
pub returns-in-Ok : goal.returns-in-Ok
returns-in-Ok g c =
    run_from (λ d. rules_of g.D.Kit.Rules.answers (g.D.Decider.kits d)) c.args.deciders.items (length c.args.binders.items)
    (use_of g.S.Source.remaining g.S.Source.failure_count c.args.source.now c.read_script.new.source) (use_of g.W.Sink.written g.W.Sink.failure_count c.args.sink.now c.storm_on.new.sink)
    c.in-Ok.steps.items c.deref.result.now c.storm_on.result c.in-Ok.ensures.read (c.in-Ok.ensures.told (none_failed _ _)) c.deref.ensures.value c.storm_on.ensures
