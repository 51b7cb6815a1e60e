use Rattle.plugin.proofs.kept.Line.begin_anew.Goals as goal

pub returns-in-Ok-clause-keeps : goal.returns-in-Ok-clause-keeps
returns-in-Ok-clause-keeps c = λ plugins pod hold. c.new.ensures plugins pod

pub returns-in-Ok-clause-known : goal.returns-in-Ok-clause-known
returns-in-Ok-clause-known c = λ plugins pod. c.nothing.ensures.holds plugins pod c.args.node.now c.args.used.now

pub returns-in-Err-clause-keeps : goal.returns-in-Err-clause-keeps
returns-in-Err-clause-keeps c = λ plugins pod hold. hold

pub returns-in-Err-clause-known : goal.returns-in-Err-clause-known
returns-in-Err-clause-known c = λ plugins pod. c.nothing-in-Err.ensures.holds plugins pod c.args.node.now c.args.used.now
