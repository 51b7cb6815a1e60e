use Rattle.std.proofs.Common.{◌∙◌}
use Rattle.pool.proofs.Ruled.{may_be_sent, nothing_learned}
use Rattle.pool.proofs.way.Outbox.send.Goals as goal

pub send_as-requires-clause-rule : goal.send_as-requires-clause-rule
send_as-requires-clause-rule g c = (may_be_sent g.H.Holds.of _ _ c.args.message c.requires, nothing_learned g.H.Holds.of _)

-- what comes back is the message
pub returns-in-Err : goal.returns-in-Err
returns-in-Err g c = c.into_inner.ensures ∙ c.in-Err.ensures.rule.0
