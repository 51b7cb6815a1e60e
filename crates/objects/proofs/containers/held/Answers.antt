use Rattle.std.proofs.Common.{◌∙◌}
use Rattle.objects.proofs.Each.{status_more}
use Rattle.objects.proofs.containers.held.Goals as goal

pub loop-status-preserved : goal.loop-status-preserved
loop-status-preserved c =
    c.loop-status.invariant
    ∙ status_more c.args.name.now c.args.said.now c.loop-status.status-index c.status-item.result c.loop-status.most c.or_held-most.result
    c.loop-status-test.true c.status-item.is c.or_held-most.ensures
