use Rattle.std.proofs.Common.{subst}
use Rattle.desk.specs.declared.step.Reply.{Reply}
use Rattle.desk.specs.declared.step.Step.TheVariants.{Assume}
use Rattle.desk.specs.Shared.{IsApplied}
use Rattle.desk.proofs.Answering.{assume_only}
use Rattle.desk.proofs.desk.Desk.assume.Goals as goal

-- no other answer comes
pub unreachable-requires : goal.unreachable-requires
unreachable-requires g c = assume_only _ _ _ _ _ _ c.in-Ok.ensures.applied c.in_default-reply.not-Ticket c.in_default-reply.not-Refused

pub apply-requires-clause-of : goal.apply-requires-clause-of
apply-requires-clause-of g c = c.requires

pub returns-in-Ticket-clause-assumed : goal.returns-in-Ticket-clause-assumed
returns-in-Ticket-clause-assumed g c = subst (λ (r : Reply). IsApplied c.args.self.now c.args.pass.now (Assume c.args.uid c.args.node) r c.apply.new.pass) c.in-Ticket.is c.in-Ok.ensures.applied

pub returns-in-Ticket-clause-used_up : goal.returns-in-Ticket-clause-used_up
returns-in-Ticket-clause-used_up g c = c.in-Ok.ensures.used_up

pub returns-in-Refused-clause-assumed : goal.returns-in-Refused-clause-assumed
returns-in-Refused-clause-assumed g c = subst (λ (r : Reply). IsApplied c.args.self.now c.args.pass.now (Assume c.args.uid c.args.node) r c.apply.new.pass) c.in-Refused.is c.in-Ok.ensures.applied

pub returns-in-Refused-clause-used_up : goal.returns-in-Refused-clause-used_up
returns-in-Refused-clause-used_up g c = c.in-Ok.ensures.used_up
