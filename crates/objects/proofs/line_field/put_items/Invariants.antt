use Rattle.std.proofs.Common.{◌≡◌, ◌++◌, drop}
use Rattle.json.specs.Tree.{items_tokens}
use Rattle.objects.specs.inside.Line.{items_json}
use Rattle.objects.proofs.line_field.put_items.Given as goal

abbrev pub invariant-loop-item : goal.invariant-loop-item
invariant-loop-item g l = record {
  tokens : l.initial.writer.tokens ++ items_tokens (items_json g.T.Item.json l.items)
      ≡ l.writer.tokens ++ items_tokens (items_json g.T.Item.json (drop l.item-index l.items));
  before : l.writer.before ≡ l.initial.writer.before;
}
