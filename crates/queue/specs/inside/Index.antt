-- Which slots stand where.
use Rattle.std.specs.Prelude.{◌≡◌, ◌≢◌, ℕ, ◌<◌, None, Some, Bool, true, false, List, length, Option, option_map, slice_set}
use Rattle.std.specs.Option.{option_map_or}
use Rattle.name_table.specs.declared.entry.Entry.{Entry as Named}
use Rattle.name_table.specs.Slots.{entry_in}
use Rattle.queued.specs.declared.state.State.{State}
use Rattle.queued.specs.declared.state.State.TheVariants.{Unschedulable, InFlight}
use Rattle.queue.specs.declared.index.Index.{Index}
use Rattle.queued.specs.Entry.{Entry, is_active, is_backoff, is_unschedulable}
use Rattle.queue.specs.inside.Row.{SlotRow, at, IsIn}
use Rattle.queue.specs.inside.Heap.{Pods, IsHeap}

-- where the pod in a slot stands
abbrev pub state_in : Pods → ℕ → Option State
state_in pods s = option_map (λ e. e.value.state) (entry_in pods s)

-- whether a slot has a pod that stands there
abbrev pub stands_in : (State → Bool) → Pods → ℕ → Bool
stands_in test pods s = option_map_or test (state_in pods s) false

-- some pass has popped it, and there was no move since
abbrev pub is_unmarked : State → Bool
is_unmarked (InFlight pass false) = true
is_unmarked _ = false

-- the row has just the slots whose pods stand there
pub record Lists (test : State → Bool) (pods : Pods) (row : SlotRow) : Type 0 where
  pub room : row.room ≡ length pods
  pub there : (t : ℕ) → IsIn row.slots t → stands_in test pods t ≡ true
  pub all : (t : ℕ) → stands_in test pods t ≡ true → IsIn row.slots t

-- the same, but for one slot, which is not in the row
pub record ListsBut (test : State → Bool) (pods : Pods) (row : SlotRow) (s : ℕ) : Type 0 where
  pub room : row.room ≡ length pods
  pub there : (t : ℕ) → IsIn row.slots t → stands_in test pods t ≡ true
  pub all : (t : ℕ) → (t ≢ s) → stands_in test pods t ≡ true → IsIn row.slots t
  pub out : IsIn row.slots s → ⊥

-- each slot that has a pod is where that stands
pub record IsIndex (pods : Pods) (index : Index) : Type 0 where
  pub active : Lists is_active pods index.active
  pub backoff : Lists is_backoff pods index.backoff
  pub unschedulable : Lists is_unschedulable pods index.unschedulable
  pub unmarked : Lists is_unmarked pods index.unmarked
  pub by_order : IsHeap pods index.active.slots
  pub by_end : IsHeap pods index.backoff.slots
  pub by_failure : IsHeap pods index.unschedulable.slots

-- the same, but for one slot, which is nowhere
pub record IsIndexBut (pods : Pods) (index : Index) (s : ℕ) : Type 0 where
  pub active : ListsBut is_active pods index.active s
  pub backoff : ListsBut is_backoff pods index.backoff s
  pub unschedulable : ListsBut is_unschedulable pods index.unschedulable s
  pub unmarked : ListsBut is_unmarked pods index.unmarked s
  pub by_order : IsHeap pods index.active.slots
  pub by_end : IsHeap pods index.backoff.slots
  pub by_failure : IsHeap pods index.unschedulable.slots

-- what a slot has, with its pod changed
abbrev pub kept_with : (Entry → Entry) → Option (Named Entry) → Option (Named Entry)
kept_with change None = None
kept_with change (Some e) = Some (record { name = e.name; value = change e.value })

-- the slots with the pod in one of them changed
abbrev pub changed_in : Pods → ℕ → (Entry → Entry) → Pods
changed_in pods s change = slice_set pods s (kept_with change (entry_in pods s))

-- it has not seen the last move: no node would take it, or it is in flight with no move since
abbrev pub is_unmoved : State → Bool
is_unmoved (Unschedulable since) = true
is_unmoved (InFlight pass false) = true
is_unmoved _ = false

-- the slot at a place of a row, if the row has any
abbrev pub IsEnd : List ℕ → ℕ → Option ℕ → Type 0
IsEnd xs k None = length xs ≡ 0
IsEnd xs k (Some s) = (k < length xs) × (at xs k ≡ s)
