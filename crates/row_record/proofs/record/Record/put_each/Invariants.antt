use Rattle.std.proofs.Common.{◌≡◌, ◌+◌, ◌*◌, ◌≤◌, ◌++◌, length, take}
use Rattle.std.specs.List.{flat_map}
use Rattle.row_record.specs.Record.{label_field}
use Rattle.row_record.proofs.record.Record.put_each.Given as goal

-- the first labels stand behind what was there
abbrev pub invariant-loop-label : goal.invariant-loop-label
invariant-loop-label l = record {
  bytes : l.self ≡ l.fn.self ++ flat_map label_field (take l.label-index l.labels);
  most : length l.self ≤ length l.fn.self + 128 * l.label-index;
}
