use Rattle.std.proofs.Common.{◌≡◌, ◌≤◌, take}
use Rattle.queue.specs.inside.Slots.{counts_so_far, total_of}
use Rattle.queue.proofs.slots.count_each.Given as goal

-- the counts are those of the slots so far
abbrev pub invariant-loop-slot : goal.invariant-loop-slot
invariant-loop-slot l = record {
  are : l.counts ≡ counts_so_far (take l.slot-index l.slots);
  few : total_of l.counts ≤ l.slot-index;
}
