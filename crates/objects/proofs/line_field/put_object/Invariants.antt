use Rattle.std.proofs.Common.{◌≡◌, ◌++◌, drop}
use Rattle.json.specs.Tree.{members_tokens}
use Rattle.objects.specs.inside.Fields.{members_json}
use Rattle.objects.proofs.line_field.put_object.Given as goal

abbrev pub invariant-loop-name : goal.invariant-loop-name
invariant-loop-name l = record {
  tokens : l.initial.writer.tokens ++ members_tokens (members_json (λ f. f.0.now) (λ f. f.1) l.fields)
      ≡ l.writer.tokens ++ members_tokens (members_json (λ f. f.0.now) (λ f. f.1) (drop l.name-index l.fields));
  before : l.writer.before ≡ l.initial.writer.before;
}
