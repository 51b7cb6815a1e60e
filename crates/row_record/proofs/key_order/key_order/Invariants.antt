use Rattle.std.proofs.Common.{◌≡◌, ◌+◌, ◌<◌, length, drop, map, All}
use Rattle.row_record.specs.KeyOrder.{in_key_order}
use Rattle.row_record.specs.inside.KeyOrder.{label_at}
use Rattle.row_record.proofs.key_order.key_order.Given as goal

-- the labels from here on are in order
abbrev pub invariant-loop-place : goal.invariant-loop-place
invariant-loop-place l = record {
  order : map (label_at l.labels) l.order.items ≡ in_key_order (drop l.place l.labels);
  there : All (λ place. place < length l.labels) l.order.items;
  count : length l.order.items + l.place ≡ length l.labels;
}
