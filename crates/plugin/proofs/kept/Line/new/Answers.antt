use Rattle.plugin.proofs.kept.Line.new.Goals as goal

pub returns : goal.returns
returns c = λ plugins pod. c.nothing.ensures.holds plugins pod c.args.node c.args.used
