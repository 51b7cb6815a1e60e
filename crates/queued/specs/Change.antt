-- What becomes of one pod that waits, by one change.
use Rattle.std.specs.Prelude.{ℕ, ◌+◌, ◌≤◌, nat_le, Bool, false}
use Rattle.quant.specs.declared.amount.Moment.{Moment}
use Rattle.queued.specs.declared.state.State.{State}
use Rattle.queued.specs.declared.state.State.TheVariants.{Active, Backoff, Unschedulable, InFlight}
use Rattle.queued.specs.declared.slot.Change.{Change}
use Rattle.queued.specs.declared.slot.Change.TheVariants.{Pop, SendBack, Fail, Tick, Move}
use Rattle.queued.specs.Entry.{Entry, popped, sent_back, failed, ticked, moved_on}

-- the moment that a pod waits for, or has waited since
abbrev pub moment_of : State → ℕ
moment_of Active = 0
moment_of (Backoff until) = until.0
moment_of (Unschedulable since) = since.0
moment_of (InFlight pass moved) = 0

-- a tick to this moment releases it: its backoff has ended, or it failed 300,000 ms before or
-- earlier
abbrev pub is_due : Moment → State → Bool
is_due now Active = false
is_due now (Backoff until) = nat_le until.0 now.0
is_due now (Unschedulable since) = nat_le (since.0 + 300000) now.0
is_due now (InFlight pass moved) = false

-- what a change makes of an entry
abbrev pub applied : Change → Entry → Entry
applied (Pop pass) entry = popped pass entry
applied (SendBack now) entry = sent_back now entry
applied (Fail how now) entry = failed how now entry
applied (Tick now) entry = ticked now entry
applied (Move now) entry = moved_on now entry

-- a change at a moment that a clock has
abbrev pub IsTimelyChange : Change → Type 0
IsTimelyChange (SendBack now) = now.0 ≤ 1000000000000000
IsTimelyChange (Fail how now) = now.0 ≤ 1000000000000000
IsTimelyChange _ = Unit {0}
