use Rattle.std.proofs.Common.{◌≡◌, take}
use Rattle.quant.specs.Request.{greatest_by}
use Rattle.choose.specs.declared.decision.Reason.TheVariants.{Marked}
use Rattle.choose.specs.declared.decision.Verdict.TheVariants.{Rejected}
use Rattle.choose.specs.Choice.{count_of}
use Rattle.choose.proofs.First.{greatest_next, max_of}
use Rattle.choose.proofs.best.most_taints.Goals as goal

pub loop-verdict-preserved : goal.loop-verdict-preserved
loop-verdict-preserved c =
    let next = greatest_next count_of c.args.verdicts.now c.loop-verdict.verdict-index (Rejected Marked) c.loop-verdict-test.true in
    let larger = max_of c.loop-verdict.most c.count_of.result in
    let before : c.loop-verdict.most ≡ greatest_by count_of (take c.loop-verdict.verdict-index c.args.verdicts.now) = c.loop-verdict.invariant in
    cc
