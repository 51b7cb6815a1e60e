use Rattle.std.proofs.Common.{◌≡◌, drop}
use Rattle.desk.proofs.under_lock.add_order.Given as goal

-- nothing was added, and the call came back
abbrev pub invariant-loop : goal.invariant-loop
invariant-loop g l =
    (goal.iterator-loop g).can_next l.iterator' × (goal.iterator-loop g).is_finite l.iterator' × (l.writer.desk ≡ l.fn.writer.desk)
    × (drop l.writer.behind l.writer.log.items ≡ drop l.fn.writer.behind l.fn.writer.log.items) × (l.order ≡ l.fn.order)
