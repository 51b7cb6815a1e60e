use Rattle.std.proofs.Common.{sym, subst}
use Rattle.std.specs.List.{AllByRecursion}
use Rattle.plugin.specs.inside.Kept.{ClassHolds}
use Rattle.plugin.proofs.kept.Kept.show.Goals as goal

pub returns-clause-keeps : goal.returns-clause-keeps
returns-clause-keeps c = λ plugins hold.
    subst (λ v. AllByRecursion (ClassHolds plugins) v.items) (sym c.count.ensures) (c.look_up-sighted.ensures.keeps plugins hold)
