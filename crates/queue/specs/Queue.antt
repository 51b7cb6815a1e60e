-- The queue as a plain set of entries under their uids, and what each call makes of it.
use Rattle.std.specs.Prelude.{ℕ, List, Bool, false, nat_le, if◌then◌else◌, map, count_by, Option, Some, None, is_some, ◌≡◌, ◌≤◌}
use Rattle.std.specs.FinMap as table
use Rattle.std.specs.Ordering.{nat_cmp}
use Rattle.std.specs.Cmp.Lexicographic.{slice_cmp}
use Rattle.quant.specs.declared.amount.Moment.{Moment}
use Rattle.quant.specs.declared.limits.TheConstants.{MAX_QUEUED}
use Rattle.quant.specs.declared.name.Name.{Name}
use Rattle.quant.specs.declared.objects.Pod.{Pod}
use Rattle.queued.specs.declared.state.PassNumber.{PassNumber}
use Rattle.queued.specs.declared.state.Failure.{Failure}
use Rattle.queue.specs.declared.refusal.Refusal.{Refusal}
use Rattle.queue.specs.declared.refusal.Refusal.TheVariants.{Known, Full, NotInFlight}
use Rattle.queue.specs.declared.counts.Counts.{Counts}
use Rattle.queued.specs.Entry.{Entry, new_entry, is_active, is_backoff, is_unschedulable, is_in_flight, is_in_flight_for, popped, sent_back, failed, ticked, moved_on}
use Rattle.queue.specs.Order.{Item, next_item}

-- the entries, each under its pod's uid
abbrev pub Entries : Type 0
Entries = table.FinMap (slice_cmp nat_cmp) Entry

-- how many entries there may be, and the entries
pub record QueueState : Type 0 where
  pub limit : ℕ
  pub entries : Entries

-- with no entry
abbrev pub no_entries : ℕ → QueueState
no_entries limit = record { limit = limit; entries = table.empty }

-- the entry of this uid, if there is one
abbrev pub entry_of : QueueState → Name → Option Entry
entry_of q uid = table.get q.entries uid

-- whether there is an entry of this uid
abbrev pub has_entry : QueueState → Name → Bool
has_entry q uid = is_some (entry_of q uid)

-- what is so of every queue: each entry stands under its own pod's uid, there are no more entries
-- than there may be, and no more than 10,000 may be
pub record IsQueue (q : QueueState) : Type 0 where
  pub own_uid : (uid : Name) (entry : Entry) → entry_of q uid ≡ Some entry → entry.pod.uid ≡ uid
  pub within : table.len q.entries ≤ q.limit
  pub limited : q.limit ≤ MAX_QUEUED

-- whether there is no room for one more
abbrev pub is_full_queue : QueueState → Bool
is_full_queue q = nat_le q.limit (table.len q.entries)

-- whether there is an entry, and it passes a test
abbrev pub stands : (Entry → Bool) → Option Entry → Bool
stands test None = false
stands test (Some entry) = test entry

-- whether some pass has popped the pod of this uid and not given it back
abbrev pub has_in_flight : QueueState → Name → Bool
has_in_flight q uid = stands (λ entry. is_in_flight entry.state) (entry_of q uid)

-- whether this pass has popped the pod of this uid and not given it back
abbrev pub holds_in_flight : QueueState → PassNumber → Name → Bool
holds_in_flight q pass uid = stands (λ entry. is_in_flight_for pass entry.state) (entry_of q uid)

-- what is popped next, under its uid: the active entry before which no other active entry comes
unfoldable pub next_of : QueueState → Option Item
next_of q = next_item (table.entries q.entries)

-- how many of these entries stand where
abbrev pub counts_in : List Entry → Counts
counts_in entries = record {
  active = count_by (λ entry. is_active entry.state) entries;
  backoff = count_by (λ entry. is_backoff entry.state) entries;
  unschedulable = count_by (λ entry. is_unschedulable entry.state) entries;
  in_flight = count_by (λ entry. is_in_flight entry.state) entries;
}

-- how many entries of the queue stand where
unfoldable pub counts_of : QueueState → Counts
counts_of q = counts_in (table.values q.entries)

-- with this entry under this uid
abbrev pub with_entry : QueueState → Name → Entry → QueueState
with_entry q uid entry = record q { entries = table.insert q.entries uid entry }

-- with what stands under this uid changed, if anything does
abbrev pub with_change : QueueState → Name → (Entry → Entry) → Option Entry → QueueState
with_change q uid change None = q
with_change q uid change (Some entry) = with_entry q uid (change entry)

-- with the entry of this uid changed, if there is one
abbrev pub changed_at : QueueState → Name → (Entry → Entry) → QueueState
changed_at q uid change = with_change q uid change (entry_of q uid)

-- each entry changed, under the same uid
abbrev pub each_changed : (Entry → Entry) → Entries → Entries
each_changed change entries = table.from_entries (map (λ item. (item.0, change item.1)) (table.entries entries))

-- with each entry changed
abbrev pub all_changed : QueueState → (Entry → Entry) → QueueState
all_changed q change = record q { entries = each_changed change q.entries }

-- what a call that may be refused leaves: where it is refused, what was there
abbrev pub unless_refused : Option Refusal → QueueState → QueueState → QueueState
unless_refused None old new = new
unless_refused (Some why) old new = old

-- why a pod of this uid is not added: there is an entry of this uid, or else there is no room
unfoldable pub refusal_to_add : QueueState → Name → Option Refusal
refusal_to_add q uid = if has_entry q uid then Some Known else (if is_full_queue q then Some Full else None)

-- why this pass does not fail the pod of this uid: it does not hold it in flight
unfoldable pub refusal_to_fail : QueueState → Name → PassNumber → Option Refusal
refusal_to_fail q uid pass = if holds_in_flight q pass uid then None else Some NotInFlight

-- why the pod of this uid is not sent back: no pass holds it in flight
unfoldable pub refusal_to_forget : QueueState → Name → Option Refusal
refusal_to_forget q uid = if has_in_flight q uid then None else Some NotInFlight

-- a pod comes
unfoldable pub after_add : QueueState → Pod → Moment → QueueState
after_add q pod now = unless_refused (refusal_to_add q pod.uid) q (with_entry q pod.uid (new_entry pod now))

-- an item is popped, if there is one
abbrev pub with_popped : QueueState → PassNumber → Option Item → QueueState
with_popped q pass None = q
with_popped q pass (Some item) = with_entry q item.0 (popped pass item.1)

-- a pass pops what is next
unfoldable pub after_pop : QueueState → PassNumber → QueueState
after_pop q pass = with_popped q pass (next_of q)

-- a pass gives a pod back that failed
unfoldable pub after_fail : QueueState → Name → PassNumber → Failure → Moment → QueueState
after_fail q uid pass how now = unless_refused (refusal_to_fail q uid pass) q (changed_at q uid (failed how now))

-- a pod in flight is sent back, whichever pass holds it
unfoldable pub after_forget : QueueState → Name → Moment → QueueState
after_forget q uid now = unless_refused (refusal_to_forget q uid) q (changed_at q uid (sent_back now))

-- time goes on to this moment
unfoldable pub after_tick : QueueState → Moment → QueueState
after_tick q now = all_changed q (ticked now)

-- something moved that may let unschedulable pods in
unfoldable pub after_move : QueueState → Moment → QueueState
after_move q now = all_changed q (moved_on now)

-- the pod of this uid goes
unfoldable pub after_remove : QueueState → Name → QueueState
after_remove q uid = record q { entries = table.remove q.entries uid }
