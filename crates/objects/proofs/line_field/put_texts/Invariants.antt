use Rattle.std.proofs.Common.{◌≡◌, ◌++◌, drop}
use Rattle.json.specs.Json.{string}
use Rattle.json.specs.Tree.{items_tokens}
use Rattle.objects.specs.inside.Line.{items_json}
use Rattle.objects.proofs.line_field.put_texts.Given as goal

abbrev pub invariant-loop-text : goal.invariant-loop-text
invariant-loop-text l = record {
  tokens : l.initial.writer.tokens ++ items_tokens (items_json (λ text. string text.now) l.items)
      ≡ l.writer.tokens ++ items_tokens (items_json (λ text. string text.now) (drop l.text-index l.items));
  before : l.writer.before ≡ l.initial.writer.before;
}
