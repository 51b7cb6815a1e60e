use Rattle.std.proofs.Common.{◌≡◌, ◌+◌, ◌≤◌, length, drop}
use Rattle.serde_json.specs.View.{items_view}
use Rattle.objects.specs.NodeRow.{taint_of}
use Rattle.objects.specs.Reading.{each}
use Rattle.objects.proofs.taints.take_taints.Given as goal

abbrev pub invariant-loop-item : goal.invariant-loop-item
invariant-loop-item l = record {
  room : length l.row + length l.found ≤ 8 + l.item-index;
  same : each taint_of l.initial.row (items_view l.found) ≡ each taint_of l.row (items_view (drop l.item-index l.found));
}
