use Rattle.plugin.proofs.kept.Line.is_of.Goals as goal

pub returns : goal.returns
returns c = λ t. c.is_same.ensures t
