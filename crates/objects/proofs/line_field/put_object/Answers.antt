use Rattle.std.proofs.Common.{◌∙◌}
use Rattle.objects.proofs.Added.{more_fields}
use Rattle.objects.proofs.line_field.put_object.Goals as goal

pub loop-name-preserved : goal.loop-name-preserved
loop-name-preserved c =
    let named = c.in_ok-key.ensures in
    let put = c.in_ok-put_field.ensures in
    record {
      tokens =
          c.loop-name.invariant.tokens
          ∙ more_fields (λ f. f.0.now) (λ f. f.1) c.args.fields.now c.loop-name.name-index c.loop-name-item.result c.loop-name.writer.tokens c.key.new.self.tokens c.put_field.new.writer.tokens
          c.loop-name-test.true c.loop-name-item.is named.ok put.0;
      before = put.1 ∙ named.room.0 ∙ c.loop-name.invariant.before;
    }
