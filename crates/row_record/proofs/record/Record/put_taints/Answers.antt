use Rattle.std.proofs.Common.{◌≡◌, ◌+◌, ◌∷◌, ◌++◌, List, ℕ, length, ap, ◌∙◌, length-append}
use Rattle.std.specs.List.{flat_map}
use Rattle.std.proofs.lemmas.List.{take_all}
use Rattle.quant.specs.declared.taint.Taint.{Taint}
use Rattle.row_record.specs.Record.{taint_field, taints_field}
use Rattle.row_record.proofs.RecordLemmas.{taints_length}
use Rattle.row_record.proofs.record.Record.put_taints.Goals as goal

written : (c : goal.After-loop-taint) → c.loop-taint.self ≡ c.args.self.now ++ taints_field c.args.taints.now
written c =
    c.loop-taint.invariant.bytes
    ∙ ap (λ (all : List Taint). c.args.self.now ++ length c.args.taints.now ∷ flat_map taint_field all)
    (take_all c.loop-taint.taint-index c.args.taints.now c.loop-taint-test.false)

pub returns-clause-count : goal.returns-clause-count
returns-clause-count c =
    let size = taints_length c.args.taints.now in
    rw (written c, length-append c.args.self.now (taints_field c.args.taints.now)) (ap (λ (n : ℕ). length c.args.self.now + n) size)
