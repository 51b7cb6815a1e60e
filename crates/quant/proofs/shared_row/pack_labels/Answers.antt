use Rattle.std.proofs.Common.{◌++◌, take, arith, ap, ◌∙◌}
use Rattle.std.specs.List.{flat_map}
use Rattle.std.proofs.lemmas.List.{append_assoc, take_all}
use Rattle.std.proofs.lemmas.Result.{IfOk-from_err}
use Rattle.quant.specs.Packed.{packed_text, packed_label}
use Rattle.quant.proofs.PackedLemmas.{one_more}
use Rattle.quant.proofs.shared_row.pack_labels.Goals as goal

pub returns-in_err-put_label-clause-packed : goal.returns-in_err-put_label-clause-packed
returns-in_err-put_label-clause-packed c = IfOk-from_err _ _ c.from_residual-in_err-put_label.ensures.0

pub returns-in_err-put_label-clause-least : goal.returns-in_err-put_label-clause-least
returns-in_err-put_label-clause-least c = IfOk-from_err _ _ c.from_residual-in_err-put_label.ensures.0

pub returns-in_err-put_label-clause-most : goal.returns-in_err-put_label-clause-most
returns-in_err-put_label-clause-most c = IfOk-from_err _ _ c.from_residual-in_err-put_label.ensures.0

pub loop-label-preserved : goal.loop-label-preserved
loop-label-preserved c =
    let name = packed_text c.args.name.now in
    let packed = flat_map packed_label (take c.loop-label.label-index c.args.labels.now) in
    record {
      same =
          c.in_ok-put_label.ensures.put
          ∙ ap (λ front. front ++ packed_label c.label-item.result) c.loop-label.invariant.same
          ∙ append_assoc name packed (packed_label c.label-item.result)
          ∙ ap (λ rest. name ++ rest) (one_more packed_label c.args.labels.now c.loop-label.label-index c.label-item.result c.loop-label-test.true c.label-item.is);
      least = omega (arith, c.in_ok-put_label.ensures.least);
      most = omega (arith, c.in_ok-put_label.ensures.most);
    }

pub returns-clause-packed : goal.returns-clause-packed
returns-clause-packed c =
    c.loop-label.invariant.same
    ∙ ap (λ labels. packed_text c.args.name.now ++ flat_map packed_label labels) (take_all c.loop-label.label-index c.args.labels.now c.loop-label-test.false)
