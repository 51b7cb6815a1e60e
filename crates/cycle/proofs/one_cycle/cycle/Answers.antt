use Rattle.std.proofs.lemmas.Result.{IfErr-weaker}
use Rattle.cycle.proofs.Cycles.{popped_in_vain}
use Rattle.cycle.proofs.one_cycle.cycle.Goals as goal

-- nothing comes of a popped pod
pub returns-in-Ok-Some-clause-cut_short : goal.returns-in-Ok-Some-clause-cut_short
returns-in-Ok-Some-clause-cut_short g c =
    let pops = rw c.in-Ok-Some.field-0-is at c.in-Ok-Some.ensures.popped in
    IfErr-weaker c.place.result _ _ (λ short in_vain. popped_in_vain _ _ _ _ _ _ pops in_vain) c.place.ensures.in_vain
