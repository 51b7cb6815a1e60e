use Rattle.std.proofs.Common.{ℕ, ◌+◌, ◌-◌, ◌/◌, ◌<◌, length, map, arith}
use Rattle.std.proofs.lemmas.List.{length-map}
use Rattle.std.proofs.lemmas.List.Sums.{prefix_len-le-length}
use Rattle.row_record.specs.inside.KeyOrder.{label_at}
use Rattle.quant.specs.Name.{is_before}
use Rattle.row_record.proofs.KeyOrderLemmas.{more_before, no_more_before}
use Rattle.row_record.proofs.key_order.count_before.Goals as goal

pub loop-low-init : goal.loop-low-init
loop-low-init c =
    let within = prefix_len-le-length (λ label. is_before label.key c.args.key.now) (map (label_at c.args.labels.now) c.args.order.now) in
    let same = length-map c.args.order.now (label_at c.args.labels.now) in
    record { low = omega arith; high = omega (arith, within, same); within = omega arith }

pub loop-low-preserved-then-comes_before : goal.loop-low-preserved-then-comes_before
loop-low-preserved-then-comes_before c =
    let middle : ℕ = c.loop-low.low + (c.loop-low.high - c.loop-low.low) / 2 in
    let inside : middle < length c.args.order.now = omega (arith, c.loop-low-test.true, c.loop-low.invariant.within) in
    record {
      low = more_before c.args.labels.now c.args.order.now c.args.key.now middle c.comes_before-in-loop-low.result inside c.comes_before-in-loop-low.ensures c.requires.in_order c.if-comes_before.true;
      high = c.loop-low.invariant.high;
      within = c.loop-low.invariant.within;
    }

pub loop-low-preserved : goal.loop-low-preserved
loop-low-preserved c =
    let middle : ℕ = c.loop-low.low + (c.loop-low.high - c.loop-low.low) / 2 in
    let inside : middle < length c.args.order.now = omega (arith, c.loop-low-test.true, c.loop-low.invariant.within) in
    record {
      low = c.loop-low.invariant.low;
      high = no_more_before c.args.labels.now c.args.order.now c.args.key.now middle c.comes_before-in-loop-low.result inside c.comes_before-in-loop-low.ensures c.if-comes_before.false;
      within = omega (arith, inside);
    }
