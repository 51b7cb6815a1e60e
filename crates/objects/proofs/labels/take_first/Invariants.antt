use Rattle.std.proofs.Common.{◌≡◌, option_map}
use Rattle.serde_json.specs.View.{members_view}
use Rattle.objects.specs.Labels.{first_labels}
use Rattle.objects.specs.Site.{site_of}
use Rattle.objects.proofs.labels.take_first.Given as goal

abbrev pub invariant-loop-key : goal.invariant-loop-key
invariant-loop-key l =
    let own = option_map (λ s. site_of s.now) l.own in
    first_labels own l.initial.labels (members_view l.members.entries) ≡ first_labels own l.labels (members_view l.key-iterator)
