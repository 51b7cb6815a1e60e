use Rattle.std.proofs.Common.{codes, refl, rules, ◌≡◌, ◌∙◌, is_some}
use Rattle.serde_json.specs.View.{view}
use Rattle.objects.specs.Demands.{wishes}
use Rattle.objects.specs.PodRow.{pod_lists}
use Rattle.objects.specs.Reading.{field, items_of}
use Rattle.objects.specs.Site.{site_of}
use Rattle.objects.proofs.Faults.{fault_first}
use Rattle.objects.proofs.Puts.{both, step}
use Rattle.objects.proofs.pod_row.fill_lists.Goals as goal

pub returns-in_err-items : goal.returns-in_err-items
unfolding pod_lists
returns-in_err-items c = λ whole. (
  whole,
  rw c.in_ok-found.ensures
      (fault_first _ c.from_residual-in_err-items.result c.in_err-items.field-0.0 (items_of (codes "tolerations") (field (codes "tolerations") (view c.args.spec.now))) _
      (search rules) c.in_err-items.ensures),
)

pub returns-in_err-fill_labels : goal.returns-in_err-fill_labels
unfolding pod_lists
returns-in_err-fill_labels c =
    let told = is_some (site_of c.args.site.now).beside in
    step c.put_wishes.ensures c.in_err-fill_labels.ensures (λ put filled.
    let wished : c.put_wishes.new.out.bytes.items ≡ wishes told (view c.args.spec.now) = put ∙ rw (c.has_beside.ensures, c.requires.out) refl in
    rw (c.in_ok-found.ensures, c.in_ok-items.ensures, ← wished) (search rules))

pub returns : goal.returns
unfolding pod_lists
returns c =
    let told = is_some (site_of c.args.site.now).beside in
    let filled = both c.put_wishes.ensures c.in_ok-fill_labels.ensures in
    step filled c.fill_tolerations.ensures (λ before last.
    let wished : c.put_wishes.new.out.bytes.items ≡ wishes told (view c.args.spec.now) = before.0 ∙ rw (c.has_beside.ensures, c.requires.out) refl in
    rw (
      c.in_ok-found.ensures,
      c.in_ok-items.ensures,
      ← wished,
      before.1,
      rw c.requires.tolerations at last,
    ) refl)
