use Rattle.plugin.proofs.kept.Kept.class_of.Goals as goal

pub returns-in-Some : goal.returns-in-Some
returns-in-Some c = λ plugins hold. c.have_come.ensures plugins (c.let_one_grow_old.ensures plugins hold)

pub returns-in-None : goal.returns-in-None
returns-in-None c = λ plugins hold. c.take_in.ensures plugins (c.let_one_grow_old.ensures plugins hold)
