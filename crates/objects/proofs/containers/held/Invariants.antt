use Rattle.std.proofs.Common.{◌≡◌, drop}
use Rattle.serde_json.specs.View.{items_view}
use Rattle.objects.specs.Containers.{held}
use Rattle.objects.proofs.containers.held.Given as goal

abbrev pub invariant-loop-status : goal.invariant-loop-status
invariant-loop-status l = held l.name l.initial.most (items_view l.said) ≡ held l.name l.most (items_view (drop l.status-index l.said))
