use Rattle.std.proofs.Common.{rules}
use Rattle.std.proofs.lemmas.List.{take_rest}
use Rattle.std.proofs.lemmas.Result.{err_from_is_err_and}
use Rattle.streams.proofs.Known.{Appends-take-add, AppendsFront-take}
use Rattle.streams.proofs.device.write_all.Goals as goal

pub loop-at-preserved : goal.loop-at-preserved
loop-at-preserved g c =
    let wrote = rw (take_rest c.args.bytes.now c.loop-at.at) at c.in_ok-at.ensures.bytes in
    (search rules, Appends-take-add _ _ _ _ _ _ c.loop-at.invariant.1 wrote, search rules)

pub returns-in_err-at-clause-err : goal.returns-in_err-at-clause-err
returns-in_err-at-clause-err g c =
    let p = err_from_is_err_and c.from_residual.result c.from_residual.ensures.1 in
    rw p.1 (AppendsFront-take _ _ _ _ c.loop-at.at c.loop-at.invariant.1 c.in_err-at.ensures.bytes)
