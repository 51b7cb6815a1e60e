use Rattle.std.proofs.Common.{◌≡◌, ◌+◌, ◌*◌, ◌≤◌, ◌∷◌, ◌++◌, length, take}
use Rattle.std.specs.List.{flat_map}
use Rattle.row_record.specs.Record.{toleration_field}
use Rattle.row_record.proofs.record.Record.put_tolerations.Given as goal

-- the first tolerations stand behind their count
abbrev pub invariant-loop-toleration : goal.invariant-loop-toleration
invariant-loop-toleration l = record {
  bytes : l.self ≡ l.fn.self ++ length l.tolerations ∷ flat_map toleration_field (take l.toleration-index l.tolerations);
  most : length l.self ≤ length l.fn.self + 1 + 130 * l.toleration-index;
}
