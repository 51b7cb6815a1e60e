-- The desk as a machine: its state, and what each step does and answers.
--
-- Where book and queue decide a step together, its tests stand in `Rattle.book.specs.Step`, which
-- is told what the queue has, and its effect is put together here, one case a step. The tests go in
-- this order, and the first that stands refuses the step, which then changes nothing:
--
--   NodeSet     Old; Full (a new name, and the nodes are full)
--   NodeGone    Old; NoNode
--   PodPending  Old; Known (an entry or a place); Full (the queue)
--   PodBound    Old; Full (no place, and the places are full)
--   PodGone     Old; Gone (neither an entry nor a place)
--   Pop         none
--   Assume      Gone (neither); Placed; NotInFlight (this pass didn't pop it); NoNode;
--               NoRoom (it doesn't fit now); Full (the places are full, or the last ticket was
--               given)
--   BindDone    Gone (neither); Confirmed (bound); StaleTicket (no place, or another ticket);
--               Confirmed (finished)
--   Forget      as BindDone
--   Fail        Gone (neither); Placed; NotInFlight (this pass didn't pop it)
--   Tick        ClockBack (the moment is below the clock)
--   Count       none
use Rattle.std.specs.Prelude.{ℕ, ◌+◌, ◌-◌, List, [], ◌∷◌, false, not, ◌&&◌, nat_lt, if◌then◌else◌, Option, None, Some, Result, Ok, Err, replicate, slice_index, slice_set, map, option_map}
use Rattle.std.specs.FinMap.{entries, from_entries}
use Rattle.quant.specs.declared.amount.Moment.{Moment}
use Rattle.quant.specs.declared.name.Name.{Name}
use Rattle.quant.specs.declared.objects.Pod.{Pod}
use Rattle.quant.specs.declared.version.Ticket.{Ticket}
use Rattle.quant.specs.declared.event.Event.{Event as Watched}
use Rattle.quant.specs.declared.event.Event.TheVariants.{NodeSet, NodeGone, PodPending, PodBound, PodGone}
use Rattle.queued.specs.declared.state.PassNumber.{PassNumber}
use Rattle.queued.specs.Entry.{Entry as QueueEntry, is_in_flight, is_in_flight_for, sent_back}
use Rattle.queue.specs.Queue.{QueueState, no_entries, entry_of, has_entry, is_full_queue, holds_in_flight, next_of, counts_of, after_add, after_pop, after_fail, after_forget, after_tick, after_move, after_remove}
use Rattle.book.specs.Cluster as book
use Rattle.book.specs.Step as book_step
use Rattle.book.specs.Step.{first_of, is_placed}
use Rattle.book.specs.Expiry.{is_expired, any_expired, without_expired}
use Rattle.book.specs.Used.{used, bound, assumed}
use Rattle.book.specs.declared.limits.Limits.{Limits}
use Rattle.book.specs.declared.refusal.Refusal.{Refusal}
use Rattle.book.specs.declared.refusal.Refusal.TheVariants as refusals
use Rattle.book.specs.declared.entry.Entry.{Entry}
use Rattle.book.specs.declared.entry.Entry.TheVariants.{Missing, Elsewhere, Held}
use Rattle.book.specs.declared.step.ClusterStep.{ClusterStep}
use Rattle.book.specs.declared.step.ClusterStep.TheVariants as cluster
use Rattle.desk.specs.declared.limits.TheConstants.{MAX_PASSES}
use Rattle.desk.specs.declared.step.Step.{Step}
use Rattle.desk.specs.declared.step.Step.TheVariants.{Event, Pop, Assume, BindDone, Forget, Fail, Tick, Count}
use Rattle.desk.specs.declared.step.Counts.{Counts}
use Rattle.desk.specs.declared.step.Reply.{Reply}
use Rattle.desk.specs.declared.step.Reply.TheVariants as replies
use Rattle.desk.specs.Shown.{Shown}

-- the state of a desk
pub record State : Type 0 where
  pub cluster : book.Cluster
  pub queue : QueueState
  pub clock : Moment
  pub calls : List ℕ  -- how many calls of each pass were answered, for all passes that a desk may hand out

-- the state before any call
abbrev pub opening : Limits → State
opening limits =
    record {
      cluster = book.opening limits;
      queue = no_entries limits.queued;
      clock = record { 0 = 0 };
      calls = replicate MAX_PASSES 0;
    }

-- what a call leaves, before it is counted, and what it is answered
pub record Outcome : Type 0 where
  pub state : State
  pub reply : Reply

-- ---- what the queue tells the book

-- a pass, as the queue knows it
abbrev pub pass_number : ℕ → PassNumber
pass_number pass = record { 0 = pass }

-- what an entry is to a pass that wants to place its pod
abbrev pub entry_for : PassNumber → Option QueueEntry → Entry
entry_for pass None = Missing
entry_for pass (Some entry) = if is_in_flight_for pass entry.state then Held entry.pod.request else Elsewhere

-- what the queue has of a pod for a pass
abbrev pub entry_at : State → ℕ → Name → Entry
entry_at s pass uid = entry_for (pass_number pass) (entry_of s.queue uid)

-- an event that names no pod, as the book takes it
abbrev pub of_node : State → Watched → ClusterStep
of_node s event = cluster.Event event false (is_full_queue s.queue)

-- an event that names this pod
abbrev pub of_pod : State → Name → Watched → ClusterStep
of_pod s uid event = cluster.Event event (has_entry s.queue uid) (is_full_queue s.queue)

-- ---- how the parts go together

-- what is answered where the book takes its part of a step: who chose a node gets a ticket
abbrev pub told : book.Cluster → ClusterStep → Reply
told c (cluster.Assume uid node entry) = replies.Ticket (book_step.next_ticket c)
told c _ = replies.Done

-- a refused step changes nothing
abbrev pub refused : State → Refusal → Outcome
refused s why = record { state = s; reply = replies.Refused why }

-- a step done, where nothing refuses it
abbrev pub unless : Option Refusal → State → Outcome → Outcome
unless None s done = done
unless (Some why) s done = refused s why

-- the book takes its part of a step, and the queue then is this one; or the book refuses it
abbrev pub both : State → ClusterStep → QueueState → Outcome
both s part queue =
    unless (book_step.refusal s.cluster part) s
    (record { state = record s { cluster = book_step.effect s.cluster part; queue = queue }; reply = told s.cluster part })

-- the queue after a move
abbrev pub moved : State → QueueState → QueueState
moved s queue = after_move queue s.clock

-- there is a move where the pod had a place
abbrev pub moved_if_placed : State → Name → QueueState → QueueState
moved_if_placed s uid queue = if is_placed s.cluster uid then moved s queue else queue

-- the pod that goes first
abbrev pub first_pod : QueueState → Option Pod
first_pod q = option_map (λ item. item.1.pod) (next_of q)

-- what a pop is answered, where it gives this pod or none
abbrev pub popped : Option Pod → Reply
popped None = replies.Idle
popped (Some pod) = replies.Popped pod

-- what is answered to who chose a node, where that gives this ticket or is refused
abbrev pub given : Result Ticket Refusal → Reply
given (Ok ticket) = replies.Ticket ticket
given (Err why) = replies.Refused why

-- why a failure isn't taken from this pass
abbrev pub refusal_to_fail : State → ℕ → Name → Option Refusal
refusal_to_fail s pass uid =
    first_of
    ((not (has_entry s.queue uid) && not (is_placed s.cluster uid), refusals.Gone)
    ∷ (is_placed s.cluster uid, refusals.Placed)
    ∷ (not (holds_in_flight s.queue (pass_number pass) uid), refusals.NotInFlight)
    ∷ [])

-- why a tick isn't taken
abbrev pub refusal_to_tick : State → Moment → Option Refusal
refusal_to_tick s now = first_of ((nat_lt now.0 s.clock.0, refusals.ClockBack) ∷ [])

-- an entry in flight backs off from this moment on, where its pod's place expires
abbrev pub sent_back_if_expired : book.Places → Moment → Name → QueueEntry → QueueEntry
sent_back_if_expired places now uid entry = if is_expired places now uid && is_in_flight entry.state then sent_back now entry else entry

-- the queue with each entry so
unfoldable pub after_expiry : QueueState → book.Places → Moment → QueueState
after_expiry q places now = record q { entries = from_entries (map (λ item. (item.0, sent_back_if_expired places now item.0 item.1)) (entries q.entries)) }

-- there is a move where a place expires
abbrev pub moved_if_expired : State → Moment → QueueState → QueueState
moved_if_expired s now queue = if any_expired s.cluster.places now then after_move queue now else queue

-- at this moment: the places that expire go and their pods back off, with one move if there are
-- any; then what has backed off or waited long enough is active
abbrev pub ticked_to : State → Moment → State
ticked_to s now =
    record s {
      cluster = without_expired s.cluster now;
      queue = after_tick (moved_if_expired s now (after_expiry s.queue s.cluster.places now)) now;
      clock = now;
    }

-- the numbers that `Count` tells. Each assumed pod is in flight, but is counted as assumed alone
abbrev pub counts : State → Counts
counts s =
    record {
      bound = bound s.cluster.places;
      assumed = assumed s.cluster.places;
      active = (counts_of s.queue).active;
      backoff = (counts_of s.queue).backoff;
      unschedulable = (counts_of s.queue).unschedulable;
      in_flight = (counts_of s.queue).in_flight - assumed s.cluster.places;
      clock = s.clock;
      version = record { 0 = s.cluster.version };
    }

-- ---- the steps

-- what a call of a pass does and is answered
abbrev pub step : State → ℕ → Step → Outcome
-- the row is set or replaced, and there is a move
step s pass (Event (NodeSet version node)) = both s (of_node s (NodeSet version node)) (moved s s.queue)
-- the row goes, and the places stay
step s pass (Event (NodeGone version name)) = both s (of_node s (NodeGone version name)) s.queue
-- the pod has an active entry that came now, with no attempts
step s pass (Event (PodPending version pod)) = both s (of_pod s pod.uid (PodPending version pod)) (after_add s.queue pod s.clock)
-- the pod is bound there, whether the node is there or not, in place of where it was, and its entry
-- goes
step s pass (Event (PodBound version uid node request)) = both s (of_pod s uid (PodBound version uid node request)) (after_remove s.queue uid)
-- the pod's place and entry go, and there is a move if it had a place
step s pass (Event (PodGone version uid)) = both s (of_pod s uid (PodGone version uid)) (moved_if_placed s uid (after_remove s.queue uid))
-- the active entry that goes first is in flight for this pass, with one attempt more
step s pass Pop = record { state = record s { queue = after_pop s.queue (pass_number pass) }; reply = popped (first_pod s.queue) }
-- the pod is assumed on the node with the next ticket; its entry stays in flight
step s pass (Assume uid node) = both s (cluster.Assume uid node (entry_at s pass uid)) s.queue
-- the place is marked as finished
step s pass (BindDone uid ticket) = both s (cluster.BindDone uid ticket s.clock (has_entry s.queue uid)) s.queue
-- the place goes, the entry backs off, and there is a move
step s pass (Forget uid ticket) = both s (cluster.Forget uid ticket (has_entry s.queue uid)) (moved s (after_forget s.queue uid s.clock))
-- the entry backs off or is unschedulable
step s pass (Fail uid how) =
    unless (refusal_to_fail s pass uid) s (record { state = record s { queue = after_fail s.queue uid (pass_number pass) how s.clock }; reply = replies.Done })
-- the clock is this moment, what expires is gone, and what has backed off or waited long enough is
-- active
step s pass (Tick now) = unless (refusal_to_tick s now) s (record { state = ticked_to s now; reply = replies.Done })
-- nothing changes
step s pass Count = record { state = s; reply = replies.Counts (counts s) }

-- the answer to a call
abbrev pub reply : State → ℕ → Step → Reply
reply s pass e = (step s pass e).reply

-- with one more call of this pass counted
abbrev pub counted : State → ℕ → State
counted s pass = record s { calls = slice_set s.calls pass (slice_index s.calls pass + 1) }

-- the state after an answered call, which is counted whatever was answered
abbrev pub after : State → ℕ → Step → State
after s pass e = counted (step s pass e).state pass

-- what a look shows: the nodes in the order of their names' bytes, each with what the pods on it
-- use
abbrev pub snapshot : book.Cluster → List Shown
snapshot c = map (λ e. record { node = e.1; used = used c.places e.0 }) (entries c.nodes)
