use Rattle.std.proofs.Common.{sym, subst}
use Rattle.live_line.specs.inside.Timely.{IsTimely}
use Rattle.live_line.proofs.Timely.{timely}
use Rattle.live.proofs.live_run.answer_to.Goals as goal

-- a moment that a line tells is one that clocks have
pub answer_meant-requires-after_bounds : goal.answer_meant-requires-after_bounds
answer_meant-requires-after_bounds g c κs within = subst IsTimely (sym c.in-Ok.ensures.meaning) (timely _ _)
