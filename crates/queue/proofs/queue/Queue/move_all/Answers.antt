use Rattle.std.proofs.Common.{ap, ◌∙◌}
use Rattle.queue.specs.Queue.{after_move}
use Rattle.queue.proofs.queue.Queue.move_all.Goals as goal

pub returns : goal.returns
unfolding after_move
returns c =
    (λ i. record { limit = c.move_each.ensures.room i; entries = c.move_each.ensures.after i })
    ∙ ap (λ q. after_move q c.args.now) c.self.view_is
