use Rattle.std.proofs.Common.{◌≡◌, drop}
use Rattle.serde_json.specs.View.{items_view}
use Rattle.objects.specs.PodRow.{tolerations_of}
use Rattle.objects.specs.inside.Members.{kept}
use Rattle.objects.specs.inside.Puts.{WhenWhole}
use Rattle.objects.proofs.tolerations.fill_tolerations.Given as goal

abbrev pub invariant-loop-item : goal.invariant-loop-item
invariant-loop-item l =
    WhenWhole l.initial.out l.out
    (tolerations_of (kept l.initial.tolerations l.initial.out.bytes.items) (items_view l.found)
    ≡ tolerations_of (kept l.tolerations l.out.bytes.items) (items_view (drop l.item-index l.found)))
