use Rattle.std.proofs.Common.{take}
use Rattle.crew.specs.Made.{Makes}
use Rattle.crew.proofs.feeder.tell_all.Given as goal

-- the pass made the steps so far
abbrev pub invariant-loop-step : goal.invariant-loop-step
invariant-loop-step g l = Makes l.initial.pass (take l.step-index l.steps) l.pass
