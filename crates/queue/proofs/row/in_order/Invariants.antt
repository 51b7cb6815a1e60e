use Rattle.std.proofs.Common.{◌≡◌, ℕ, ◌<◌, length}
use Rattle.queue.specs.inside.Row.{at}
use Rattle.queue.proofs.row.in_order.Given as goal

-- the numbers so far stand at their places
abbrev pub invariant-loop-number : goal.invariant-loop-number
invariant-loop-number l = record {
  len : length l.row.items ≡ l.number;
  each : (k : ℕ) → k < l.number → at l.row.items k ≡ k;
}
