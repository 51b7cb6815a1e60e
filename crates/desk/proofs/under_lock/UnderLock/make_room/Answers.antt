use Rattle.std.proofs.Common.{◌++◌, ◌∷◌, [], sym, ap, ◌∙◌, subst, drop}
use Rattle.desk.specs.inside.Board.{IsPublished}
use Rattle.desk.specs.inside.Shared.{Held}
use Rattle.desk.proofs.Sharing.{still_nothing, no_order}
use Rattle.desk.proofs.under_lock.UnderLock.make_room.Goals as goal

-- a call that changes nothing waits too
pub invariant_of-self : goal.invariant_of-self
invariant_of-self g c =
    let book = g.J.Naming.book in
    let limits = g.J.Naming.limits in
    let w = c.self.inside.writer in
    let b = w.desk.shown.value in
    let x : Held = record { desk = c.self.inside.core.value; prefix = c.self.inside.prefix } in
    let ok = c.in-Ok.ensures in
    let more = drop c.append.new.self.behind c.append.new.self.log.items in
    let waits = ok.pending ∙ ap (λ o. drop w.behind w.log.items ++ o ∷ []) (c.no_order-order.ensures ∙ ap no_order c.published.ensures) in
    subst (λ d. IsPublished book limits x d.shown.value more) (sym ok.desk)
    (record { stands = c.self.invariant.stands; shown = c.self.invariant.shown; idle = still_nothing b (drop w.behind w.log.items) more c.self.invariant.idle waits })
