use Rattle.std.proofs.Common.{◌++◌, List, ap, ◌∙◌}
use Rattle.std.specs.List.{flat_map}
use Rattle.std.proofs.lemmas.List.{take_all}
use Rattle.quant.specs.declared.objects.Label.{Label}
use Rattle.row_record.specs.Record.{label_field}
use Rattle.row_record.proofs.record.Record.put_each.Goals as goal

pub returns-clause-fields : goal.returns-clause-fields
returns-clause-fields c =
    c.loop-label.invariant.bytes
    ∙ ap (λ (all : List Label). c.args.self.now ++ flat_map label_field all) (take_all c.loop-label.label-index c.args.labels.now c.loop-label-test.false)
