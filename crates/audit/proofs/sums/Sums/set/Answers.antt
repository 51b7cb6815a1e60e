use Rattle.audit.proofs.Summing.{set_there, set_elsewhere}
use Rattle.audit.proofs.sums.Sums.set.Goals as goal

pub returns-clause-same : goal.returns-clause-same
returns-clause-same c = set_there c.args.self.now (record { by_node = c.insert.new.self }) c.args.node c.args.sum c.in_ok-insert.ensures.updates

pub returns-clause-others : goal.returns-clause-others
returns-clause-others c = λ other apart. set_elsewhere c.args.self.now (record { by_node = c.insert.new.self }) c.args.node other c.args.sum c.in_ok-insert.ensures.updates apart
