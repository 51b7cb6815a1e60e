use Rattle.std.proofs.Common.{◌≡◌, ◌+◌, ◌-◌, ◌*◌, ◌^◌, ◌<◌, ◌≤◌, length}
use Rattle.queue.specs.inside.Row.{HasSame}
use Rattle.queue.specs.inside.Heap.{GoesFirst, IsHeapBut}
use Rattle.queue.proofs.heap.rise.Given as goal

-- a heap but for the slot's place so far
abbrev pub invariant-loop-place : goal.invariant-loop-place
invariant-loop-place l = record {
  inside : l.place < length l.row.slots;
  hole : IsHeapBut l.pods l.row.slots l.place;
  first : GoesFirst l.pods l.row.slots l.place l.place;
  same : HasSame l.fn.row.slots l.row.slots;
  room : l.row.room ≡ l.fn.row.room;
  more : l.fn.count ≤ l.count;
  counted : 2 ^ (l.count - l.fn.count) * (l.place + 1) ≤ l.from + 1;
}

abbrev pub decreases-loop-place : goal.decreases-loop-place
decreases-loop-place l = l.place
