use Rattle.std.proofs.Common.{subst}
use Rattle.choose.specs.Choice.{AreVerdicts}
use Rattle.pieces.specs.Pieces.{nodes_of}
use Rattle.pool.proofs.Collecting.{are_said}
use Rattle.pool.proofs.lent_kit.judge_said.Goals as goal

pub returns-clause-are : goal.returns-clause-are
returns-clause-are g c =
    let rules = g.K.Rules.answers c.args.kit.now in
    are_said g.J.Site.Says rules c.args.order.now.pod c.requires.speaks _ _
    (subst (λ a. AreVerdicts rules a.pod (nodes_of a.snapshot a.pieces c.args.piece 1) c.judge_asked.new.verdicts) c.asked.ensures c.judge_asked.ensures.are)
