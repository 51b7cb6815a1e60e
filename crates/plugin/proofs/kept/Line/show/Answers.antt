use Rattle.std.proofs.Common.{subst, refl}
use Rattle.quant.specs.declared.objects.Node.{Node}
use Rattle.plugin.specs.inside.Kept.{Holds}
use Rattle.plugin.proofs.kept.Line.show.Goals as goal

pub returns-clause-known : goal.returns-clause-known
returns-clause-known c = λ plugins pod hold.
    subst (λ (n : Node). Holds plugins pod n c.args.used.now c.known_by.result) (c.if-not-is_of.ensures refl)
    (c.known_by.ensures.known plugins pod hold)
