use Rattle.std.proofs.Common.{refl}
use Rattle.streams.proofs.Greatest.{limits_same}
use Rattle.live.proofs.Lived.{done_at_end, told_at_end}
use Rattle.live.proofs.live_run.serve_live.Goals as goal

-- the program's limits are the greatest
pub live_lines-requires-clause-greatest : goal.live_lines-requires-clause-greatest
live_lines-requires-clause-greatest g c = λ _ _.
    let greatest = c.greatest.ensures in
    limits_same c.greatest.result greatest.nodes greatest.placed greatest.queued

pub returns-in-Ok : goal.returns-in-Ok
returns-in-Ok g c = done_at_end _ _ _ _ _ _ c.in-Ok.ensures refl refl

pub returns-in-Err : goal.returns-in-Err
returns-in-Err g c = told_at_end _ _ _ _ _ c.in-Err.fault c.in-Err.ensures c.report.ensures.status c.report.ensures.told
