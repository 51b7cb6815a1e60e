use Rattle.objects.proofs.Enough.{counts_enough, counts_the_same, counts_what_is_asked}
use Rattle.objects.proofs.laws.what_stands_counts_enough.Goals as goal

pub returns-clause-enough : goal.returns-clause-enough
returns-clause-enough c = counts_enough

pub returns-clause-same : goal.returns-clause-same
returns-clause-same c = counts_the_same

pub returns-clause-asked : goal.returns-clause-asked
returns-clause-asked c = counts_what_is_asked
