use Rattle.std.proofs.Common.{ap, ◌∙◌}
use Rattle.queue.specs.Queue.{after_tick}
use Rattle.queue.proofs.queue.Queue.tick.Goals as goal

pub returns : goal.returns
unfolding after_tick
returns c =
    (λ i. record { limit = c.tick_each.ensures.room i; entries = c.tick_each.ensures.after i })
    ∙ ap (λ q. after_tick q c.args.now) c.self.view_is
