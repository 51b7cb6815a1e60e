use Rattle.std.proofs.Common.{◌≡◌}
use Rattle.serde_json.specs.View.{members_view}
use Rattle.objects.specs.Demands.{has_kinds}
use Rattle.objects.proofs.demands.is_read_affinity.Given as goal

abbrev pub invariant-loop-key : goal.invariant-loop-key
invariant-loop-key l = has_kinds (members_view l.initial.key-iterator) ≡ has_kinds (members_view l.key-iterator)
