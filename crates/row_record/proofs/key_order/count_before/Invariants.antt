use Rattle.std.proofs.Common.{ℕ, ◌-◌, ◌≤◌, length, map}
use Rattle.std.specs.List.{prefix_len}
use Rattle.row_record.specs.inside.KeyOrder.{label_at}
use Rattle.quant.specs.Name.{is_before}
use Rattle.row_record.proofs.key_order.count_before.Given as goal

-- what is sought lies between the two ends
abbrev pub invariant-loop-low : goal.invariant-loop-low
invariant-loop-low l =
    let count : ℕ = prefix_len (λ label. is_before label.key l.key) (map (label_at l.labels) l.order) in
    record {
      low : l.low ≤ count;
      high : count ≤ l.high;
      within : l.high ≤ length l.order;
    }

abbrev pub decreases-loop-low : goal.decreases-loop-low
decreases-loop-low l = l.high - l.low
