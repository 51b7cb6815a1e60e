-- Which entries are told at a moment in time.
use Rattle.std.specs.Prelude.{◌≤◌}
use Rattle.queued.specs.declared.state.State.{State}
use Rattle.queued.specs.declared.state.State.TheVariants.{Unschedulable}

-- an unschedulable pod failed at a moment that a clock has
abbrev pub IsTimely : State → Type 0
IsTimely (Unschedulable since) = since.0 ≤ 1000000000000000
IsTimely _ = Unit {0}
