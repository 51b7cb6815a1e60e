use Rattle.std.proofs.Common.{◌++◌, ℕ, List, ap, sym, ◌∙◌, rules}
use Rattle.std.specs.List.{flat_map}
use Rattle.quant.specs.declared.objects.Label.{Label}
use Rattle.row_record.specs.Record.{label_field}
use Rattle.row_record.specs.inside.Packed.{ArePacked}
use Rattle.row_record.proofs.KeyOrderLemmas.{as_they_stand}
use Rattle.row_record.proofs.record.Record.put_counted.Goals as goal

pub returns-in-Some-clause-fields : goal.returns-in-Some-clause-fields
returns-in-Some-clause-fields c =
    let labels = c.args.labels.now in
    let facts : ArePacked labels c.in-Some.packed.now = search rules in
    let standing = ap (λ (ls : List Label). flat_map label_field ls) (sym (as_they_stand labels facts.in_order)) in
    c.put.ensures ∙ ap (λ (more : List ℕ). c.args.self.now ++ more) (facts.bytes ∙ standing)
