use Rattle.std.proofs.Common.{◌≡◌, ◌+◌, ◌≤◌, length, drop}
use Rattle.serde_json.specs.View.{items_view}
use Rattle.manifest.specs.Item.{each}
use Rattle.manifest.proofs.item.fill.Given as goal

abbrev pub invariant-loop-item : goal.invariant-loop-item
invariant-loop-item g l = record {
  room : length l.row + length l.found ≤ g.row.N + l.item-index;
  same : each (g.T.Item.reading l.field) l.initial.row (items_view l.found) ≡ each (g.T.Item.reading l.field) l.row (items_view (drop l.item-index l.found));
}
