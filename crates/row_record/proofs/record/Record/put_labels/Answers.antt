use Rattle.std.proofs.Common.{◌≡◌, ◌++◌, ℕ, length, ap, ◌+◌, length-append}
use Rattle.row_record.specs.Record.{labels_field}
use Rattle.row_record.proofs.RecordLemmas.{labels_length, with_count}
use Rattle.row_record.proofs.record.Record.put_labels.Goals as goal

written : (c : goal.After-put_counted) → c.put_counted.new.self ≡ c.args.self.now ++ labels_field c.args.labels.now
written c = with_count c.args.self.now c.args.labels.now _ _ c.put_byte.ensures.field c.put_counted.ensures.fields

pub returns-clause-field : goal.returns-clause-field
returns-clause-field c = written c

pub returns-clause-count : goal.returns-clause-count
returns-clause-count c =
    let size = labels_length c.args.labels.now in
    rw (written c, length-append c.args.self.now (labels_field c.args.labels.now)) (ap (λ (n : ℕ). length c.args.self.now + n) size)
