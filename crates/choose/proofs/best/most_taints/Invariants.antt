use Rattle.std.proofs.Common.{◌≡◌, take}
use Rattle.quant.specs.Request.{greatest_by}
use Rattle.choose.specs.Choice.{count_of}
use Rattle.choose.proofs.best.most_taints.Given as goal

abbrev pub invariant-loop-verdict : goal.invariant-loop-verdict
invariant-loop-verdict l = l.most ≡ greatest_by count_of (take l.verdict-index l.verdicts)
