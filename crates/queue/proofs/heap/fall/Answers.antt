use Rattle.std.proofs.Common.{◌+◌, ◌-◌, arith, ◌∙◌}
use Rattle.queue.proofs.Rows.{same_again, same_swapped}
use Rattle.queue.proofs.Heaps.{fallen}
use Rattle.queue.proofs.Powers.{more_down, at_most_13, power_alone}
use Rattle.queue.proofs.heap.fall.Goals as goal

pub first_child-child-requires-clause-few : goal.first_child-child-requires-clause-few
first_child-child-requires-clause-few c =
    omega (arith, at_most_13 c.loop-place.count c.args.count.now (c.loop-place.place + 1) (power_alone (c.loop-place.count - c.args.count.now) c.args.from (c.loop-place.place + 1) c.loop-place.invariant.counted) (omega (arith, c.loop-place.invariant.inside, c.loop-place.invariant.same.len, c.requires.short)))

pub loop-place-preserved : goal.loop-place-preserved
loop-place-preserved c =
    let child = c.first_child-child.result in
    let best = c.first_child-child.ensures in
    let swapped = c.swap.ensures.swapped in
    let was = c.loop-place.invariant in
    record {
      inside = omega (arith, best.within, swapped.len);
      hole = fallen c.args.pods.now c.loop-place.row.slots c.swap.new.self.slots c.loop-place.place child best.low best.high best.within swapped best.first was.hole;
      same = same_again c.args.row.now.slots c.loop-place.row.slots c.swap.new.self.slots was.same
          (same_swapped c.loop-place.row.slots c.swap.new.self.slots c.loop-place.place child swapped was.inside best.within);
      room = c.swap.ensures.room ∙ was.room;
      more = omega (arith, best.more, was.more);
      counted = more_down c.loop-place.count c.first_child-child.new.count c.args.count.now c.loop-place.place child c.args.from was.more best.counted was.counted best.low;
    }
