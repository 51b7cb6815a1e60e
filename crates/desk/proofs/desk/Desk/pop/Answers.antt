use Rattle.std.proofs.Common.{subst}
use Rattle.desk.specs.declared.step.Reply.{Reply}
use Rattle.desk.specs.declared.step.Step.TheVariants.{Pop}
use Rattle.desk.specs.Shared.{IsApplied}
use Rattle.desk.proofs.Answering.{pop_idle}
use Rattle.desk.proofs.desk.Desk.pop.Goals as goal

-- where it gives no pod, none waits
pub returns-in_default-reply-clause-popped : goal.returns-in_default-reply-clause-popped
returns-in_default-reply-clause-popped g c = pop_idle _ _ _ _ c.in-Ok.ensures.applied c.in_default-reply.not-Popped

pub apply-requires-clause-of : goal.apply-requires-clause-of
apply-requires-clause-of g c = c.requires

pub returns-in-Popped-clause-popped : goal.returns-in-Popped-clause-popped
returns-in-Popped-clause-popped g c = subst (λ (r : Reply). IsApplied c.args.self.now c.args.pass.now Pop r c.apply.new.pass) c.in-Popped.is c.in-Ok.ensures.applied

pub returns-in-Popped-clause-used_up : goal.returns-in-Popped-clause-used_up
returns-in-Popped-clause-used_up g c = c.in-Ok.ensures.used_up

pub returns-in_default-reply-clause-used_up : goal.returns-in_default-reply-clause-used_up
returns-in_default-reply-clause-used_up g c = c.in-Ok.ensures.used_up
