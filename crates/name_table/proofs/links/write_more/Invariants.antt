-- What is written grows, and each link stays as it was.
use Rattle.std.proofs.Common.{◌≡◌, ℕ, ◌+◌, ◌-◌, ◌≤◌, vec_len, vec_capacity}
use Rattle.name_table.specs.inside.Written.{link_at}
use Rattle.name_table.proofs.links.write_more.Given as goal

abbrev pub invariant-loop-written : goal.invariant-loop-written
invariant-loop-written l = record {
  same : (k : ℕ) → link_at l.written.items l.free k ≡ link_at l.initial.written.items l.free k;
  room : vec_capacity l.initial.written ≤ vec_capacity l.written;
}

abbrev pub decreases-loop-written : goal.decreases-loop-written
decreases-loop-written l = l.slot + 1 - vec_len l.written
