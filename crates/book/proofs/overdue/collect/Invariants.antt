use Rattle.std.proofs.Common.{◌≡◌, ℕ, ◌<◌, ◌≤◌, ◌-◌, List, Some, length, slice_index, vec_capacity}
use Rattle.std.specs.Prelude.{Contains}
use Rattle.name_table.specs.Slots.{name_in}
use Rattle.book.proofs.overdue.collect.Given as goal

-- those in the slots so far are there
abbrev pub invariant-loop-slot : goal.invariant-loop-slot
invariant-loop-slot l = record {
  room : vec_capacity l.fn.names ≤ vec_capacity l.names;
  few : length l.names.items ≤ l.from;
  within : l.from ≤ length l.table;
  all : (i : ℕ) (uid : List ℕ) → i < l.from → slice_index l.finishes i ≤ l.limit → name_in l.table i ≡ Some uid → Contains l.names.items uid;
}

abbrev pub decreases-loop-slot : goal.decreases-loop-slot
decreases-loop-slot l = length l.table - l.from
