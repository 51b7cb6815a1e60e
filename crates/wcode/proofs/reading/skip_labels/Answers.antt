use Rattle.std.proofs.lemmas.Result.{err_from_is_err_and}
use Rattle.wcode.proofs.Words.{skipped_none_yet, skipped_more, skipped_none}
use Rattle.wcode.proofs.reading.skip_labels.Goals as goal

pub loop-i-init : goal.loop-i-init
loop-i-init c = skipped_none_yet c.args.bytes.now c.args.at c.requires

pub returns-in_err-next-clause-none : goal.returns-in_err-next-clause-none
returns-in_err-next-clause-none c =
    let p = err_from_is_err_and c.from_residual.result c.from_residual.ensures.1 in
    rw (p.1) (skipped_none c.args.count c.loop-i.invariant c.loop-i-test.true c.in_err-next.ensures.none)

pub loop-i-preserved : goal.loop-i-preserved
loop-i-preserved c = skipped_more c.in_ok-next.next c.in_ok-next.field-0-0 c.loop-i.invariant c.in_ok-next.ensures.end c.in_ok-next.ensures.found
