use Rattle.std.proofs.Common.{map, drop, ◌≡◌, ℕ, ◌<◌, ◌+◌, ◌-◌, length, arith, get_or}
use Rattle.std.specs.List.{prefix_len}
use Rattle.row_record.specs.inside.KeyOrder.{label_at}
use Rattle.quant.specs.Name.{is_before}
use Rattle.row_record.proofs.KeyOrderLemmas.{step, read_at, all_inserted, order_rises}
use Rattle.row_record.proofs.key_order.key_order.Goals as goal

pub loop-place-preserved : goal.loop-place-preserved
loop-place-preserved c =
    let labels = c.args.labels.now in
    let place : ℕ = c.loop-place.place - 1 in
    let inside : place < length labels = omega (arith, c.loop-place.invariant.count, c.loop-place-test.true) in
    let one : place + 1 ≡ c.loop-place.place = omega (arith, c.loop-place-test.true) in
    let label = get_or labels place c.index-labels-place.result in
    let key = read_at labels place c.index-labels-place.result inside in
    let at : c.count_before-at.result ≡ prefix_len (λ l. is_before l.key label.key) (map (label_at labels) c.loop-place.order.items) =
    rw c.as_slice.ensures.value at c.count_before-at.ensures.value in
    record {
      order = step labels c.loop-place.order.items c.insert.new.self.items c.loop-place.place place c.count_before-at.result label.key one inside key at c.insert.ensures.items c.loop-place.invariant.order;
      there = rw c.insert.ensures.items (all_inserted (λ p. p < length labels) c.loop-place.order.items c.count_before-at.result place c.loop-place.invariant.there inside);
      count = omega (arith, c.insert.ensures.len, c.loop-place.invariant.count, c.loop-place-test.true);
    }

pub count_before-at-requires-clause-in_order : goal.count_before-at-requires-clause-in_order
count_before-at-requires-clause-in_order c =
    rw (c.as_slice.ensures.value, c.loop-place.invariant.order) (order_rises (drop c.loop-place.place c.args.labels.now))
