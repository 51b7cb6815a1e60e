use Rattle.std.proofs.Common.{◌++◌, ap, ◌∙◌}
use Rattle.std.specs.List.{flat_map}
use Rattle.std.proofs.lemmas.List.{take_all}
use Rattle.std.proofs.lemmas.Result.{IfOk-from_err}
use Rattle.quant.specs.inside.Packed.{packed_taint}
use Rattle.quant.proofs.PackedLemmas.{one_more}
use Rattle.quant.proofs.shared_row.pack_taints.Goals as goal

pub returns-in_err-put_taint : goal.returns-in_err-put_taint
returns-in_err-put_taint c = IfOk-from_err _ _ c.from_residual.ensures.0

pub loop-taint-preserved : goal.loop-taint-preserved
loop-taint-preserved c =
    c.in_ok-put_taint.ensures
    ∙ ap (λ front. front ++ packed_taint c.taint-item.result) c.loop-taint.invariant
    ∙ one_more packed_taint c.args.taints.now c.loop-taint.taint-index c.taint-item.result c.loop-taint-test.true c.taint-item.is

pub returns : goal.returns
returns c = c.loop-taint.invariant ∙ ap (flat_map packed_taint) (take_all c.loop-taint.taint-index c.args.taints.now c.loop-taint-test.false)
