use Rattle.std.proofs.Common.{◌≡◌, suc, ◌-◌, length, sym, ap, ◌∙◌, arith, rules}
use Rattle.std.specs.Ordering.{is_lt}
use Rattle.quant.proofs.LabelOrderLemmas.{last_in_order, out_of_order}
use Rattle.quant.proofs.label_order.are_in_order.Goals as goal

pub loop-place-init : goal.loop-place-init
loop-place-init c =
    record { order = last_in_order c.args.labels.now (length c.args.labels.now - 1) (omega arith); within = omega arith }

pub returns-then-is_lt : goal.returns-then-is_lt
returns-then-is_lt c =
    let front = c.loop-place.place - 1 - 1 in
    let here : suc front ≡ c.loop-place.place - 1 = omega (arith, c.loop-place-test.true) in
    let before = ap is_lt (sym c.cmp.ensures) ∙ sym c.is_lt.ensures ∙ c.if-is_lt.true in
    sym (out_of_order c.args.labels.now front c.index-labels-place.result c.index-labels-place-in-loop-place.result (omega (arith, c.loop-place-test.true, c.loop-place.invariant.within)) (rw here before))
