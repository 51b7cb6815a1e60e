use Rattle.std.proofs.Common.{◌∙◌}
use Rattle.objects.proofs.Added.{more_items, array_told, with_last}
use Rattle.objects.proofs.line_field.put_items.Goals as goal

pub loop-item-preserved : goal.loop-item-preserved
loop-item-preserved g c = record {
  tokens =
      c.loop-item.invariant.tokens
      ∙ more_items g.T.Item.json c.args.items.now c.loop-item.item-index c.item-item.result c.loop-item.writer.tokens c.put.new.writer.tokens
      c.loop-item-test.true c.item-item.is c.in_ok-put.ensures.0;
  before = c.in_ok-put.ensures.1 ∙ c.loop-item.invariant.before;
}

pub returns : goal.returns
returns g c = with_last c.end_array.result _ _ c.end_array.ensures.ok (λ told. (
  array_told g.T.Item.json c.args.items.now c.loop-item.item-index _ _ _ _
      c.in_ok-begin_array.ensures.ok c.loop-item.invariant.tokens c.loop-item-test.false told,
  c.end_array.ensures.room.0 ∙ c.loop-item.invariant.before ∙ c.in_ok-begin_array.ensures.room.0,
))
