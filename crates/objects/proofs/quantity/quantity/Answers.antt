use Rattle.objects.specs.Quantity.{most}
use Rattle.objects.proofs.Sayings.{quantity_within}
use Rattle.objects.proofs.quantity.quantity.Goals as goal

pub returns-clause-bounded : goal.returns-clause-bounded
returns-clause-bounded c =
    rw (c.read.ensures, c.most.ensures.value) (quantity_within c.args.rounding c.places.result (most c.args.resource) c.args.text.now).is
