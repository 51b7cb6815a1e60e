use Rattle.std.proofs.Common.{ap, sym, ◌∙◌}
use Rattle.queue.specs.Queue.{QueueState}
use Rattle.desk.specs.inside.Caller.{with_state}
use Rattle.desk.proofs.Noted.{unremoved}
use Rattle.desk.proofs.desk_core.Core.unqueue.Goals as goal

-- there is none to go
pub returns-else-queued : goal.returns-else-queued
returns-else-queued c =
    let d = c.args.self.now in
    ap (λ (q : QueueState). with_state d (record d.state { queue = q })) (sym (unremoved d.state.queue c.args.uid.now (sym c.requires ∙ c.if-queued.false)))
