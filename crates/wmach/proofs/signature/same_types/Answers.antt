use Rattle.std.proofs.Common.{◌∙◌}
use Rattle.wmach.proofs.SameTypes.{pointwise_same}
use Rattle.wmach.proofs.signature.same_types.Goals as goal

-- src/signature.rt
pub returns : goal.returns
returns c = c.eq.ensures ∙ pointwise_same c.args.a.now c.args.b.now
