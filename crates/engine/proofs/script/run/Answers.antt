use Rattle.streams.proofs.Greatest.{limits_same}
use Rattle.engine.proofs.script.run.Goals as goal

-- the program's limits are the greatest
pub run_desk-requires-clause-greatest : goal.run_desk-requires-clause-greatest
run_desk-requires-clause-greatest g c = λ _ _.
    let greatest = c.greatest.ensures in
    limits_same c.greatest.result greatest.nodes greatest.placed greatest.queued
