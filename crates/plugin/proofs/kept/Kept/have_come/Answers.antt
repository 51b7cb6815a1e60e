use Rattle.plugin.proofs.KeptLemmas.{class_set}
use Rattle.plugin.proofs.kept.Kept.have_come.Goals as goal

pub returns : goal.returns
returns c = λ plugins hold.
    class_set plugins c.args.self.now.classes.items c.args.at c.index_mut.result.now c.come.new.self c.requires c.index_mut.ensures.value
    (λ h. c.come.ensures.keeps plugins h) hold
