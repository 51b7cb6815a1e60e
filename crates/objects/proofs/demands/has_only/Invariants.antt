use Rattle.std.proofs.Common.{◌≡◌, map}
use Rattle.serde_json.specs.View.{members_view}
use Rattle.objects.specs.Demands.{has_only}
use Rattle.objects.proofs.demands.has_only.Given as goal

abbrev pub invariant-loop-key : goal.invariant-loop-key
invariant-loop-key l =
    let names = map (λ name. name.now) l.names in
    has_only names (members_view l.initial.key-iterator) ≡ has_only names (members_view l.key-iterator)
