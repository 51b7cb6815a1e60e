use Rattle.std.proofs.Common.{subst}
use Rattle.desk.specs.declared.step.Reply.{Reply}
use Rattle.desk.specs.declared.step.Step.TheVariants.{Count}
use Rattle.desk.specs.Shared.{IsApplied}
use Rattle.desk.proofs.Answering.{count_gives}
use Rattle.desk.proofs.desk.Desk.count.Goals as goal

-- no other answer comes
pub unreachable-requires : goal.unreachable-requires
unreachable-requires g c = let gives = count_gives _ _ _ _ c.in-Ok.ensures.applied in c.in_default-reply.not-Counts gives.0 gives.1

pub apply-requires-clause-of : goal.apply-requires-clause-of
apply-requires-clause-of g c = c.requires

pub returns-clause-counted : goal.returns-clause-counted
returns-clause-counted g c = subst (λ (r : Reply). IsApplied c.args.self.now c.args.pass.now Count r c.apply.new.pass) c.in-Counts.is c.in-Ok.ensures.applied

pub returns-clause-used_up : goal.returns-clause-used_up
returns-clause-used_up g c = c.in-Ok.ensures.used_up
