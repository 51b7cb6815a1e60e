use Rattle.std.proofs.Common.{◌≡◌, ◌≤◌, length, drop}
use Rattle.serde_json.specs.View.{items_view}
use Rattle.objects.specs.Containers.{container}
use Rattle.objects.specs.Reading.{each}
use Rattle.objects.proofs.containers.fill.Given as goal

abbrev pub invariant-loop-item : goal.invariant-loop-item
invariant-loop-item l = record {
  few : length l.row.items ≤ l.item-index;
  same : each (λ before. container l.stands l.key (items_view l.said)) l.initial.row.items (items_view l.found)
      ≡ each (λ before. container l.stands l.key (items_view l.said)) l.row.items (items_view (drop l.item-index l.found));
}
