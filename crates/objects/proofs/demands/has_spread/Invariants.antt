use Rattle.std.proofs.Common.{◌≡◌, drop}
use Rattle.serde_json.specs.View.{items_view}
use Rattle.objects.specs.Demands.{has_spread}
use Rattle.objects.proofs.demands.has_spread.Given as goal

abbrev pub invariant-loop-item : goal.invariant-loop-item
invariant-loop-item l = has_spread l.wished (items_view l.found) ≡ has_spread l.wished (items_view (drop l.item-index l.found))
