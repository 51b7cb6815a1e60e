-- What the slots of a queue stand for, and how many pods stand where.
use Rattle.std.specs.Prelude.{◌≡◌, ℕ, ◌+◌, ◌≤◌, length, Some, Bool, if◌then◌else◌, sum_by}
use Rattle.name_table.specs.declared.entry.Entry.{Entry as Named}
use Rattle.name_table.specs.Slots.{entry_in, map_of, NamesOnce}
use Rattle.name_table.specs.inside.Slots.{number_in}
use Rattle.quant.specs.declared.limits.TheConstants.{MAX_QUEUED}
use Rattle.queue.specs.declared.counts.Counts.{Counts}
use Rattle.queue.specs.declared.index.Index.{Index}
use Rattle.queued.specs.declared.state.State.{State}
use Rattle.queued.specs.declared.state.State.TheVariants.{Active, Backoff, Unschedulable, InFlight}
use Rattle.queued.specs.Entry.{Entry, is_active, is_backoff, is_unschedulable, is_in_flight}
use Rattle.queue.specs.Queue.{QueueState}
use Rattle.queue.specs.inside.Heap.{Pods}
use Rattle.queue.specs.inside.Index.{IsIndex}

-- the queue that slots stand for
abbrev pub state_of : Pods → QueueState
state_of pods = record { limit = length pods; entries = map_of pods }

-- each pod is in the slot of its own uid
abbrev pub OwnUids : Pods → Type 0
OwnUids pods = (s : ℕ) (e : Named Entry) → entry_in pods s ≡ Some e → e.value.pod.uid ≡ e.name

-- what holds of a queue's parts: the index is of its slots, each uid is there once, and the last
-- call compared few
pub record IsKept (pods : Pods) (ways : Index) (compared : ℕ) : Type 0 where
  pub index : IsIndex pods ways
  pub once : NamesOnce pods
  pub own_uid : OwnUids pods
  pub limited : length pods ≤ MAX_QUEUED
  pub few : compared ≤ 28

-- with one more entry, in this state
abbrev pub counted : State → Counts → Counts
counted Active counts = record counts { active = counts.active + 1 }
counted (Backoff until) counts = record counts { backoff = counts.backoff + 1 }
counted (Unschedulable since) counts = record counts { unschedulable = counts.unschedulable + 1 }
counted (InFlight pass moved) counts = record counts { in_flight = counts.in_flight + 1 }

-- all that are counted
abbrev pub total_of : Counts → ℕ
total_of counts = counts.active + counts.backoff + counts.unschedulable + counts.in_flight

-- 1 for an entry that stands there, else 0
abbrev pub one_if : (State → Bool) → Entry → ℕ
one_if test entry = if test entry.state then 1 else 0

-- how many pods of these slots stand where
abbrev pub counts_so_far : Pods → Counts
counts_so_far pods = record {
  active = sum_by (number_in (one_if is_active)) pods;
  backoff = sum_by (number_in (one_if is_backoff)) pods;
  unschedulable = sum_by (number_in (one_if is_unschedulable)) pods;
  in_flight = sum_by (number_in (one_if is_in_flight)) pods;
}
