use Rattle.std.proofs.Common.{◌≡◌, ◌+◌, ◌*◌, ◌≤◌, ◌∷◌, ◌++◌, length, take}
use Rattle.std.specs.List.{flat_map}
use Rattle.row_record.specs.Record.{taint_field}
use Rattle.row_record.proofs.record.Record.put_taints.Given as goal

-- the first taints stand behind their count
abbrev pub invariant-loop-taint : goal.invariant-loop-taint
invariant-loop-taint l = record {
  bytes : l.self ≡ l.fn.self ++ length l.taints ∷ flat_map taint_field (take l.taint-index l.taints);
  most : length l.self ≤ length l.fn.self + 1 + 129 * l.taint-index;
}
