use Rattle.std.proofs.Common.{arith, rules, List, ◌∷◌, [], ◌∙◌, length-append}
use Rattle.serde_json.specs.View.{view, items_view}
use Rattle.objects.specs.Containers.{container}
use Rattle.objects.specs.declared.containers.Container.{Container}
use Rattle.objects.proofs.Each.{each_begins, each_more, each_done}
use Rattle.objects.proofs.Faults.{fault_first}
use Rattle.objects.proofs.containers.fill.Goals as goal

pub loop-item-preserved : goal.loop-item-preserved
loop-item-preserved c =
    let f = λ (before : List Container). container c.args.stands c.args.key.now (items_view c.args.said.now) in
    let put = c.in_ok-put_container.ensures in
    let few = c.loop-item.invariant.few in
    record {
      few = rw (put, length-append c.loop-item.row.items (c.in_ok-next.next ∷ [])) (omega (arith, few));
      same = rw put (c.loop-item.invariant.same ∙ each_more f c.args.found.now c.loop-item.item-index c.item-item.result c.loop-item.row.items c.in_ok-next.next c.loop-item-test.true c.item-item.is c.in_ok-next.ensures);
    }

pub returns-in_err-next-clause-value : goal.returns-in_err-next-clause-value
returns-in_err-next-clause-value c =
    let f = λ (before : List Container). container c.args.stands c.args.key.now (items_view c.args.said.now) in
    let row = c.loop-item.row.items in
    rw (c.loop-item.invariant.same ∙ each_begins f c.args.found.now c.loop-item.item-index c.item-item.result row c.loop-item-test.true c.item-item.is)
    (fault_first {Z = List Container} _ c.from_residual.result c.in_err-next.field-0.0 (f row (view c.item-item.result)) _ (search rules) c.in_err-next.ensures)

pub returns-clause-value : goal.returns-clause-value
returns-clause-value c =
    let f = λ (before : List Container). container c.args.stands c.args.key.now (items_view c.args.said.now) in
    c.loop-item.invariant.same ∙ each_done f c.args.found.now c.loop-item.item-index c.loop-item.row.items c.loop-item-test.false
