use Rattle.std.proofs.Common.{subst, refl}
use Rattle.quant.specs.declared.amount.Res.{Res}
use Rattle.plugin.specs.inside.Kept.{Holds}
use Rattle.plugin.proofs.kept.Line.known_by.Goals as goal

pub returns-clause-keeps : goal.returns-clause-keeps
returns-clause-keeps c = λ plugins pod hold. c.whatever_is_used-self.ensures plugins pod c.args.self.now.node c.args.self.now.used c.args.used.now hold

pub returns-clause-known : goal.returns-clause-known
returns-clause-known c = λ plugins pod hold. c.whatever_is_used-self.ensures plugins pod c.args.self.now.node c.args.self.now.used c.args.used.now hold

pub returns-then-same_amounts-clause-known : goal.returns-then-same_amounts-clause-known
returns-then-same_amounts-clause-known c = λ plugins pod hold.
    subst (λ (u : Res). Holds plugins pod c.args.self.now.node u c.args.self.now.known) (c.if-same_amounts.ensures refl) hold
