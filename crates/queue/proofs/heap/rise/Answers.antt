use Rattle.std.proofs.Common.{◌≡◌, ℕ, ◌+◌, ◌-◌, ◌*◌, ◌/◌, ◌^◌, ◌≤◌, true, arith, sym, ◌∙◌, subst}
use Rattle.queue.specs.inside.Row.{at}
use Rattle.queue.specs.inside.Heap.{goes_before}
use Rattle.queue.proofs.Rows.{same_again, same_swapped}
use Rattle.queue.proofs.Heaps.{compared, risen, risen_first}
use Rattle.queue.proofs.Powers.{more_up, stays_up, at_most_13, power_alone}
use Rattle.queue.proofs.heap.rise.Goals as goal

pub before-requires-clause-few : goal.before-requires-clause-few
before-requires-clause-few c =
    omega (arith, at_most_13 c.loop-place.count c.args.count.now (c.args.from + 1) (power_alone (c.loop-place.count - c.args.count.now) c.loop-place.place (c.args.from + 1) c.loop-place.invariant.counted) (omega arith))

pub returns-then-not-before-clause-counted : goal.returns-then-not-before-clause-counted
returns-then-not-before-clause-counted c =
    subst (λ n. 2 ^ (n - c.args.count.now) ≤ c.args.from + 1) (sym c.before-in-loop-place.ensures.counted)
    (stays_up c.loop-place.count c.args.count.now c.loop-place.place c.args.from c.loop-place.invariant.more c.loop-place.invariant.counted c.loop-place-test.true)

pub loop-place-preserved : goal.loop-place-preserved
loop-place-preserved c =
    let j : ℕ = (c.loop-place.place - 1) / 2 in
    let low : j * 2 + 1 ≤ c.loop-place.place = omega (arith, c.loop-place-test.true) in
    let high : c.loop-place.place ≤ j * 2 + 2 = omega (arith, c.loop-place-test.true) in
    let before : goes_before c.args.pods.now (at c.loop-place.row.slots c.loop-place.place) (at c.loop-place.row.slots j) ≡ true =
    compared c.args.pods.now c.at.result c.at-in-loop-place.result _ _ c.before-in-loop-place.result true c.before-in-loop-place.ensures.answer c.at.ensures.slot c.at-in-loop-place.ensures.slot c.if-not-before.false in
    let inside = c.loop-place.invariant.inside in
    let swapped = c.swap.ensures.swapped in
    record {
      inside = omega (arith, low, inside, swapped.len);
      hole = risen c.args.pods.now c.loop-place.row.slots c.swap.new.self.slots j c.loop-place.place low high inside swapped before c.loop-place.invariant.hole;
      first = risen_first c.args.pods.now c.loop-place.row.slots c.swap.new.self.slots j c.loop-place.place low high inside swapped before c.loop-place.invariant.hole;
      same = same_again c.args.row.now.slots c.loop-place.row.slots c.swap.new.self.slots c.loop-place.invariant.same
          (same_swapped c.loop-place.row.slots c.swap.new.self.slots j c.loop-place.place swapped (omega (arith, low, inside)) inside);
      room = c.swap.ensures.room ∙ c.loop-place.invariant.room;
      more = omega (arith, c.before-in-loop-place.ensures.counted, c.loop-place.invariant.more);
      counted = subst (λ n. 2 ^ (n - c.args.count.now) * (j + 1) ≤ c.args.from + 1) (sym c.before-in-loop-place.ensures.counted)
          (more_up c.loop-place.count c.args.count.now c.loop-place.place j c.args.from c.loop-place.invariant.more c.loop-place.invariant.counted (omega (arith, low)));
    }
