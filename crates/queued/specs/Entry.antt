-- One pod that waits: what the queue knows of it, and what becomes of it.
use Rattle.std.specs.Prelude.{ℕ, ◌+◌, ◌-◌, ◌*◌, ◌^◌, min, nat_le, Bool, true, false, if◌then◌else◌, ◌==◌}
use Rattle.quant.specs.declared.amount.Moment.{Moment}
use Rattle.quant.specs.declared.objects.Pod.{Pod}
use Rattle.queued.specs.declared.state.PassNumber.{PassNumber}
use Rattle.queued.specs.declared.state.Failure.{Failure}
use Rattle.queued.specs.declared.state.Failure.TheVariants as failure
use Rattle.queued.specs.declared.state.State.{State}
use Rattle.queued.specs.declared.state.State.TheVariants.{Active, Backoff, Unschedulable, InFlight}

-- a pod, when it came, how often it was popped, and where it stands
pub record Entry : Type 0 where
  pub pod : Pod
  pub arrival : Moment
  pub attempts : ℕ
  pub state : State

-- a pod that comes now
abbrev pub new_entry : Pod → Moment → Entry
new_entry pod now = record { pod = pod; arrival = now; attempts = 0; state = Active }

-- how long a pod backs off after so many attempts, in milliseconds: 1,000 after the first, twice as
-- long after each further one, and at most 10,000
abbrev pub backoff : ℕ → ℕ
backoff attempts = min 10000 (1000 * 2 ^ (attempts - 1))

-- when a pod has backed off that failed at this moment, after so many attempts
abbrev pub backed_off : Moment → ℕ → Moment
backed_off failed attempts = record { 0 = failed.0 + backoff attempts }

-- it waits to be popped
abbrev pub is_active : State → Bool
is_active Active = true
is_active _ = false

-- it waits for a moment
abbrev pub is_backoff : State → Bool
is_backoff (Backoff until) = true
is_backoff _ = false

-- it waits for a move, or for time
abbrev pub is_unschedulable : State → Bool
is_unschedulable (Unschedulable since) = true
is_unschedulable _ = false

-- some pass has popped it
abbrev pub is_in_flight : State → Bool
is_in_flight (InFlight pass moved) = true
is_in_flight _ = false

-- this pass has popped it
abbrev pub is_in_flight_for : PassNumber → State → Bool
is_in_flight_for mine (InFlight pass moved) = pass.0 == mine.0
is_in_flight_for mine _ = false

-- there was a move since it was popped
abbrev pub was_moved : State → Bool
was_moved (InFlight pass moved) = moved
was_moved _ = false

-- a pop: one more attempt, up to 1,000,000, and in flight for the pass that pops
abbrev pub popped : PassNumber → Entry → Entry
popped pass entry = record entry { attempts = min 1000000 (entry.attempts + 1); state = InFlight pass false }

-- a return to backoff at this moment
abbrev pub sent_back : Moment → Entry → Entry
sent_back now entry = record entry { state = Backoff (backed_off now entry.attempts) }

-- where a failure at this moment leaves a pod. One that no node would take stays unschedulable,
-- unless there was a move since it was popped
abbrev pub state_after_failure : Failure → Bool → Moment → ℕ → State
state_after_failure failure.Unschedulable false now attempts = Unschedulable now
state_after_failure failure.Unschedulable true now attempts = Backoff (backed_off now attempts)
state_after_failure failure.Again moved now attempts = Backoff (backed_off now attempts)

-- a failure at this moment
abbrev pub failed : Failure → Moment → Entry → Entry
failed how now entry = record entry { state = state_after_failure how (was_moved entry.state) now entry.attempts }

-- what a tick to this moment makes of a state: backoff ends at its moment, and an unschedulable pod
-- is released 300,000 ms after its failure
abbrev pub state_after_tick : Moment → State → State
state_after_tick now Active = Active
state_after_tick now (Backoff until) = if nat_le until.0 now.0 then Active else Backoff until
state_after_tick now (Unschedulable since) = if nat_le (since.0 + 300000) now.0 then Active else Unschedulable since
state_after_tick now (InFlight pass moved) = InFlight pass moved

-- a tick to this moment
abbrev pub ticked : Moment → Entry → Entry
ticked now entry = record entry { state = state_after_tick now entry.state }

-- where a move at this moment leaves an unschedulable pod: active if it has backed off since its
-- failure, else in backoff until it has
abbrev pub state_when_woken : Moment → Moment → State
state_when_woken now over = if nat_le over.0 now.0 then Active else Backoff over

-- what a move at this moment makes of a state, after so many attempts. A pod in flight keeps in
-- mind that there was a move
abbrev pub state_after_move : Moment → ℕ → State → State
state_after_move now attempts Active = Active
state_after_move now attempts (Backoff until) = Backoff until
state_after_move now attempts (Unschedulable since) = state_when_woken now (backed_off since attempts)
state_after_move now attempts (InFlight pass moved) = InFlight pass true

-- a move at this moment
abbrev pub moved_on : Moment → Entry → Entry
moved_on now entry = record entry { state = state_after_move now entry.attempts entry.state }
