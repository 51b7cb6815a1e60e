-- What is written grows, and what the slots have stays.
use Rattle.std.proofs.Common.{◌≡◌, ◌-◌, ◌≤◌, vec_len, vec_capacity}
use Rattle.name_table.specs.Slots.{with_free}
use Rattle.name_table.proofs.entries.Entries.put.Given as goal

abbrev pub invariant-loop-self : goal.invariant-loop-self
invariant-loop-self g l = record {
  same : with_free l.self-inside.written.items l.self-inside.room ≡ l.fn.self;
  within : vec_len l.self-inside.written ≤ l.self-inside.room;
  fits : l.self-inside.room ≤ vec_capacity l.self-inside.written;
}

abbrev pub decreases-loop-self : goal.decreases-loop-self
decreases-loop-self g l = l.self-inside.room - vec_len l.self-inside.written
