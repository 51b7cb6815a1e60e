use Rattle.std.proofs.Common.{◌≡◌, ◌++◌}
use Rattle.serde_json.specs.View.{members_view}
use Rattle.objects.specs.Demands.{other_fields}
use Rattle.objects.specs.inside.Puts.{WhenWhole}
use Rattle.objects.proofs.demands.put_fields.Given as goal

abbrev pub invariant-loop-key : goal.invariant-loop-key
invariant-loop-key l =
    WhenWhole l.initial.out l.out
    (l.initial.out.bytes.items ++ other_fields (members_view l.initial.key-iterator) ≡ l.out.bytes.items ++ other_fields (members_view l.key-iterator))
