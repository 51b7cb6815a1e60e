use Rattle.std.proofs.Common.{codes, subst, ap, ◌∙◌}
use Rattle.serde_json.specs.View.{view}
use Rattle.objects.specs.declared.quantity.Rounding.TheVariants.{Down}
use Rattle.objects.specs.Amounts.{amount_of}
use Rattle.objects.specs.Reading.{within}
use Rattle.objects.specs.inside.Answers.{Tells}
use Rattle.objects.proofs.amounts.offered.Goals as goal

pub returns-clause-value : goal.returns-clause-value
returns-clause-value c =
    subst (λ o. Tells (λ n. n) c.amount_of.result (amount_of Down c.args.resource o))
    (c.within-found.ensures ∙ ap (λ key. within (codes "allocatable") key (view c.args.status.now)) c.key.ensures)
    c.amount_of.ensures.value
