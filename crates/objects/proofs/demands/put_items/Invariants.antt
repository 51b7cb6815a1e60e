use Rattle.std.proofs.Common.{◌≡◌, ◌++◌, drop}
use Rattle.serde_json.specs.View.{items_view}
use Rattle.objects.specs.Demands.{each_item}
use Rattle.objects.specs.inside.Puts.{WhenWhole}
use Rattle.objects.proofs.demands.put_items.Given as goal

abbrev pub invariant-loop-item : goal.invariant-loop-item
invariant-loop-item g l =
    WhenWhole l.initial.out l.out
    (l.initial.out.bytes.items ++ each_item g.T.Listed.names (items_view l.found)
    ≡ l.out.bytes.items ++ each_item g.T.Listed.names (items_view (drop l.item-index l.found)))
