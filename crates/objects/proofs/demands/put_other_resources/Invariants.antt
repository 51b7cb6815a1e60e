use Rattle.std.proofs.Common.{◌≡◌, ◌++◌, option_map}
use Rattle.serde_json.specs.View.{view, members_view}
use Rattle.objects.specs.Demands.{other_resources}
use Rattle.objects.specs.Reading.{has}
use Rattle.objects.specs.inside.Puts.{WhenWhole}
use Rattle.objects.proofs.demands.put_other_resources.Given as goal

abbrev pub invariant-loop-key : goal.invariant-loop-key
invariant-loop-key l =
    let named = has (option_map (λ v. view v.now) l.others) in
    WhenWhole l.initial.out l.out
    (l.initial.out.bytes.items ++ other_resources named (members_view l.initial.key-iterator)
    ≡ l.out.bytes.items ++ other_resources named (members_view l.key-iterator))
