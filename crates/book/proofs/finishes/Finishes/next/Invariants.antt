use Rattle.std.proofs.Common.{ℕ, ◌<◌, ◌≤◌, ◌-◌, length, slice_index}
use Rattle.book.proofs.finishes.Finishes.next.Given as goal

-- all before this slot are later than the limit
abbrev pub invariant-loop-slot : goal.invariant-loop-slot
invariant-loop-slot l = record {
  on : l.from ≤ l.slot;
  late : (i : ℕ) → l.from ≤ i → i < l.slot → i < length l.self → l.limit < slice_index l.self i;
}

abbrev pub decreases-loop-slot : goal.decreases-loop-slot
decreases-loop-slot l = length l.self - l.slot
