use Rattle.std.proofs.Common.{◌≡◌, length}
use Rattle.name_table.specs.Slots.{map_of, NamesOnce}
use Rattle.queued.specs.Entry.{ticked}
use Rattle.queue.specs.Queue.{each_changed}
use Rattle.queue.specs.inside.Index.{IsIndex}
use Rattle.queued.specs.Change.{is_due}
use Rattle.queue.specs.inside.Slots.{OwnUids}
use Rattle.queue.proofs.Changes.{tally}
use Rattle.queue.proofs.slots.tick_each.Given as goal

-- what is still to be changed may be changed as at first
abbrev pub invariant-loop-slot : goal.invariant-loop-slot
invariant-loop-slot l = record {
  index : IsIndex l.pods l.index;
  once : NamesOnce l.pods;
  own : OwnUids l.pods;
  room : length l.pods ≡ length l.fn.pods;
  after : each_changed (ticked l.now) (map_of l.pods) ≡ each_changed (ticked l.now) (map_of l.fn.pods);
}

abbrev pub decreases-loop-slot : goal.decreases-loop-slot
decreases-loop-slot l = tally (is_due l.now) l.pods
