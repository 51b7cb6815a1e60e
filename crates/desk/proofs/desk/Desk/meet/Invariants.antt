use Rattle.std.proofs.Common.{◌≡◌}
use Rattle.desk.proofs.desk.Desk.meet.Given as goal

-- neither pass has changed
abbrev pub invariant-loop : goal.invariant-loop
invariant-loop g l =
    (goal.iterator-loop g).can_next l.iterator' × (goal.iterator-loop g).is_finite l.iterator' × (l.first ≡ l.fn.first) × (l.second ≡ l.fn.second)
