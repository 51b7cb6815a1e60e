use Rattle.std.proofs.Common.{◌≡◌, ◌++◌, List, ℕ, map, ap, ◌∙◌}
use Rattle.row_record.specs.KeyOrder.{in_key_order}
use Rattle.row_record.specs.inside.KeyOrder.{label_at}
use Rattle.row_record.proofs.RecordLemmas.{at_all_places}
use Rattle.row_record.proofs.record.Record.put_by_places.Goals as goal

pub returns-clause-fields : goal.returns-clause-fields
returns-clause-fields c =
    let labels = c.args.labels.now in
    let order : map (label_at labels) c.as_slice-place-items.result.now ≡ in_key_order labels =
    rw c.as_slice-place-items.ensures.value c.key_order.ensures.order in
    c.loop-place.invariant.bytes
    ∙ ap (λ (bytes : List ℕ). c.args.self.now ++ bytes)
    (at_all_places labels c.as_slice-place-items.result.now c.loop-place.place-index c.loop-place-test.false order)
