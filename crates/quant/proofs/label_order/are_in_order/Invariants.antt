use Rattle.std.proofs.Common.{◌≡◌, ◌-◌, ◌≤◌, true, length, drop}
use Rattle.quant.specs.LabelOrder.{are_in_order}
use Rattle.quant.proofs.label_order.are_in_order.Given as goal

-- the labels from the one in front of here on are in order
abbrev pub invariant-loop-place : goal.invariant-loop-place
invariant-loop-place l = record {
  order : are_in_order (drop (l.place - 1) l.labels) ≡ true;
  within : l.place ≤ length l.labels;
}
