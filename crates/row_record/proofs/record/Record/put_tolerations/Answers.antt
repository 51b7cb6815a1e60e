use Rattle.std.proofs.Common.{◌≡◌, ◌+◌, ◌∷◌, ◌++◌, List, ℕ, length, ap, ◌∙◌, length-append}
use Rattle.std.specs.List.{flat_map}
use Rattle.std.proofs.lemmas.List.{take_all}
use Rattle.quant.specs.declared.taint.Toleration.{Toleration}
use Rattle.row_record.specs.Record.{toleration_field, tolerations_field}
use Rattle.row_record.proofs.RecordLemmas.{tolerations_length}
use Rattle.row_record.proofs.record.Record.put_tolerations.Goals as goal

written : (c : goal.After-loop-toleration) → c.loop-toleration.self ≡ c.args.self.now ++ tolerations_field c.args.tolerations.now
written c =
    c.loop-toleration.invariant.bytes
    ∙ ap (λ (all : List Toleration). c.args.self.now ++ length c.args.tolerations.now ∷ flat_map toleration_field all)
    (take_all c.loop-toleration.toleration-index c.args.tolerations.now c.loop-toleration-test.false)

pub returns-clause-count : goal.returns-clause-count
returns-clause-count c =
    let size = tolerations_length c.args.tolerations.now in
    rw (written c, length-append c.args.self.now (tolerations_field c.args.tolerations.now)) (ap (λ (n : ℕ). length c.args.self.now + n) size)
