use Rattle.std.proofs.Common.{◌≡◌, ◌∙◌, codes, is_some, sym, ap, append_assoc}
use Rattle.serde_json.specs.View.{view}
use Rattle.objects.specs.Reading.{within}
use Rattle.objects.specs.Told.{kept_back}
use Rattle.objects.proofs.Items.{some_of_map}
use Rattle.objects.proofs.Puts.{both, step}
use Rattle.objects.proofs.told.put_kept_back.Goals as goal

pub returns : goal.returns
unfolding kept_back
returns c =
    let deleted : c.is_some-is_deleted.result ≡ is_some (within (codes "metadata") (codes "deletionTimestamp") (view c.args.pod.now)) =
    c.is_some-is_deleted.ensures ∙ sym (some_of_map _ c.within.result) ∙ ap is_some c.within.ensures in
    let demanded = both c.put_other_scheduler.ensures c.put_demands.ensures in
    step demanded c.put_left_out_if.ensures
    (λ before last. rw (last, before.1, before.0, c.requires, c.has_beside.ensures, deleted) (simp append_assoc))
