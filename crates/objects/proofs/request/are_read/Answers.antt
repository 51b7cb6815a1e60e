use Rattle.std.proofs.Common.{true, false, sym, ◌∙◌}
use Rattle.objects.proofs.Each.{read_more, read_done}
use Rattle.objects.proofs.request.are_read.Goals as goal

pub loop-status-preserved : goal.loop-status-preserved
loop-status-preserved c =
    c.loop-status.invariant
    ∙ read_more c.args.said.now c.loop-status.status-index c.status-item.result true c.loop-status-test.true c.status-item.is c.if-not-is_status_read.ensures

pub returns-then-not-is_status_read : goal.returns-then-not-is_status_read
returns-then-not-is_status_read c =
    sym (c.loop-status.invariant
    ∙ read_more c.args.said.now c.loop-status.status-index c.status-item.result false c.loop-status-test.true c.status-item.is c.if-not-is_status_read.ensures)

pub returns : goal.returns
returns c = sym (c.loop-status.invariant ∙ read_done c.args.said.now c.loop-status.status-index c.loop-status-test.false)
