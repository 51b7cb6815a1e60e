use Rattle.std.proofs.Common.{◌≡◌, drop}
use Rattle.desk.proofs.under_lock.publish_orders.Given as goal

-- nothing was published, and what is to be stays
abbrev pub invariant-loop : goal.invariant-loop
invariant-loop g l =
    (goal.iterator-loop g).can_next l.iterator' × (goal.iterator-loop g).is_finite l.iterator' × (l.writer.desk.shown.value ≡ l.fn.writer.desk.shown.value)
    × (drop l.writer.behind l.writer.log.items ≡ drop l.fn.writer.behind l.fn.writer.log.items)
