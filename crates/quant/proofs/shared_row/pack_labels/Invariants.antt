use Rattle.std.proofs.Common.{◌≡◌, ◌+◌, ◌*◌, ◌≤◌, ◌++◌, length, take}
use Rattle.std.specs.List.{flat_map}
use Rattle.quant.specs.Packed.{packed_text, packed_label}
use Rattle.quant.proofs.shared_row.pack_labels.Given as goal

-- the name and the first labels are packed
abbrev pub invariant-loop-label : goal.invariant-loop-label
invariant-loop-label l = record {
  same : l.packed.items ≡ packed_text l.name ++ flat_map packed_label (take l.label-index l.labels);
  least : 1 + length l.name ≤ length l.packed.items;
  most : length l.packed.items ≤ 1 + length l.name + 128 * l.label-index;
}
