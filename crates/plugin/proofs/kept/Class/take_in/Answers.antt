use Rattle.plugin.proofs.kept.Class.take_in.Goals as goal

pub returns-clause-known : goal.returns-clause-known
returns-clause-known c = λ plugins pod. c.nothing.ensures.holds plugins pod c.args.node.now c.args.used.now

pub returns-clause-keeps : goal.returns-clause-keeps
returns-clause-keeps c = λ plugins hold. record { of_all = hold.of_all; lines = c.insert_line-line.ensures plugins c.args.self.now.pod.items hold.lines }
