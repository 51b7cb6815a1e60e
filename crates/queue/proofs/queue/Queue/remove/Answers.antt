use Rattle.std.proofs.Common.{arith, ap, ◌∙◌}
use Rattle.queue.specs.Queue.{after_remove}
use Rattle.queue.proofs.States.{remove_none, remove_some, kept_without}
use Rattle.queue.proofs.queue.Queue.remove.Goals as goal

pub returns-in_default-clause-after : goal.returns-in_default-clause-after
returns-in_default-clause-after c =
    remove_none c.self.inside.pods c.args.uid.now c.in_default.ensures.value
    ∙ ap (λ q. after_remove q c.args.uid.now) c.self.view_is

pub invariant_of-self-2 : goal.invariant_of-self-2
invariant_of-self-2 c =
    kept_without c.self.inside.pods c.remove_at.new.self c.self.inside.index c.leave.new.self c.in-Some.slot c.self.inside.compared c.leave.new.count c.self.invariant c.in-Some.ensures.filled c.remove_at.ensures.slots c.remove_at.ensures.once c.remove_at.ensures.room
    c.leave.ensures.index
    (omega (arith, c.leave.ensures.counted))

pub returns-clause-after : goal.returns-clause-after
returns-clause-after c =
    remove_some c.self.inside.pods c.remove_at.new.self c.in-Some.slot c.remove_at.result c.args.uid.now c.remove_at.ensures.entry c.in-Some.ensures.name c.remove_at.ensures.room c.remove_at.ensures.map
    ∙ ap (λ q. after_remove q c.args.uid.now) c.self.view_is
