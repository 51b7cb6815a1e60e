use Rattle.std.proofs.Common.{◌≡◌, ◌+◌, ◌*◌, ◌≤◌, ◌++◌, length, take}
use Rattle.std.specs.List.{flat_map}
use Rattle.row_record.specs.Record.{label_field}
use Rattle.row_record.specs.inside.KeyOrder.{label_at}
use Rattle.row_record.proofs.record.Record.put_by_places.Given as goal

-- the first labels in order stand behind what was there
abbrev pub invariant-loop-place : goal.invariant-loop-place
invariant-loop-place l = record {
  bytes : l.self ≡ l.fn.self ++ flat_map (λ place. label_field (label_at l.labels place)) (take l.place-index l.place-items);
  most : length l.self ≤ length l.fn.self + 128 * l.place-index;
}
