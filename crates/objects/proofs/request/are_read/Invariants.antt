use Rattle.std.proofs.Common.{◌≡◌, drop}
use Rattle.serde_json.specs.View.{items_view}
use Rattle.objects.specs.PodRequest.{are_read}
use Rattle.objects.proofs.request.are_read.Given as goal

abbrev pub invariant-loop-status : goal.invariant-loop-status
invariant-loop-status l = are_read (items_view l.said) ≡ are_read (items_view (drop l.status-index l.said))
