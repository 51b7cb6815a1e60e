use Rattle.std.proofs.Common.{◌≡◌}
use Rattle.serde_json.specs.View.{members_view}
use Rattle.objects.specs.Labels.{other_labels}
use Rattle.objects.specs.Site.{site_of}
use Rattle.objects.specs.inside.Members.{kept}
use Rattle.objects.specs.inside.Puts.{WhenWhole}
use Rattle.objects.proofs.labels.take_others.Given as goal

abbrev pub invariant-loop-key : goal.invariant-loop-key
invariant-loop-key l =
    WhenWhole l.initial.out l.out
    (other_labels (site_of l.site) (kept l.initial.labels l.initial.out.bytes.items) (members_view l.members.entries)
    ≡ other_labels (site_of l.site) (kept l.labels l.out.bytes.items) (members_view l.key-iterator))
