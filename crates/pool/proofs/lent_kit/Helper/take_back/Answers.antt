use Rattle.pool.proofs.Collecting.{are_said}
use Rattle.pool.proofs.lent_kit.Helper.take_back.Goals as goal

pub returns-clause-are : goal.returns-clause-are
returns-clause-are g c = λ yes.
    are_said g.J.Site.Says (g.K.Rules.answers c.in-Some.done.kit) c.args.order.now.pod c.in-Some.ensures _ _ (c.take_verdicts-is_this.ensures.are yes)
