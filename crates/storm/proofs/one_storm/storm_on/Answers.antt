use Rattle.std.proofs.Common.{length, inl, refl}
use Rattle.choose.specs.Kits.{rules_of}
use Rattle.storm.proofs.Ending.{none_told, told_storm}
use Rattle.storm.proofs.one_storm.storm_on.Goals as goal

-- there was no room for a desk
pub returns-in_default : goal.returns-in_default
returns-in_default g c = none_told _ _ _ _ _ _ (inl refl) refl refl

-- nothing could be dumped
pub returns-in-Err : goal.returns-in-Err
returns-in-Err g c = none_told _ _ _ _ _ _ c.in-Err.ensures.faults refl refl

-- the desk was closed, audited and told of
pub returns-in-Ok-storm_to_dump : goal.returns-in-Ok-storm_to_dump
returns-in-Ok-storm_to_dump g c =
    told_storm (λ d. rules_of g.D.Kit.Rules.answers (g.D.Decider.kits d)) c.args.deciders.items (length c.args.binders.items) _ c.args.steps.now _ _ _ _ _ _
    c.in-Ok-storm_to_dump.ensures.ended c.close_and_tell.ensures
