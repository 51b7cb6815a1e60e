-- What each step does to a book, and what is answered.
use Rattle.std.specs.Prelude.{◌≡◌, ◌+◌, List, [], ◌∷◌, Bool, true, false, not, ◌&&◌, ◌||◌, ◌==◌, nat_le, Option, None, Some, Result, MatchResult, is_some, is_ok, if◌then◌else◌}
use Rattle.std.specs.FinMap.{insert, remove, get, contains_key}
use Rattle.quant.specs.declared.event.Event.TheVariants.{NodeSet, NodeGone, PodPending, PodBound, PodGone}
use Rattle.quant.specs.declared.amount.Moment.{Moment}
use Rattle.quant.specs.declared.amount.Request.{Request}
use Rattle.quant.specs.declared.limits.TheConstants.{MAX_TICKET}
use Rattle.quant.specs.declared.name.Name.{Name}
use Rattle.quant.specs.declared.objects.Node.{Node}
use Rattle.quant.specs.declared.version.Ticket.{Ticket}
use Rattle.quant.specs.declared.version.Version.{Version}
use Rattle.fit.specs.Fit.{fit_of}
use Rattle.book.specs.declared.step.ClusterStep.{ClusterStep}
use Rattle.book.specs.declared.step.ClusterStep.TheVariants.{Event, Assume, BindDone, Forget}
use Rattle.book.specs.declared.entry.Entry.{Entry}
use Rattle.book.specs.declared.entry.Entry.TheVariants.{Missing, Elsewhere, Held}
use Rattle.book.specs.declared.step.Reply.{Reply}
use Rattle.book.specs.declared.step.Reply.TheVariants.{Done, Queue, Ticket as Given, Refused}
use Rattle.book.specs.declared.refusal.Refusal.{Refusal}
use Rattle.book.specs.declared.refusal.Refusal.TheVariants.{Old, Full, NotInFlight, Placed, NoNode, NoRoom, StaleTicket, Gone, Known, Confirmed}
use Rattle.book.specs.declared.place.Place.{Place}
use Rattle.book.specs.declared.place.Status.{Status}
use Rattle.book.specs.declared.place.Status.TheVariants.{Assumed, Bound}
use Rattle.book.specs.Cluster.{Cluster}
use Rattle.book.specs.Tables.{is_full_for}
use Rattle.book.specs.Used.{used}

-- ---- the tests

-- tests in their order, each with what it refuses a step for: the first that stands decides
abbrev pub first_of : List (Bool × Refusal) → Option Refusal
first_of [] = None
first_of (test ∷ tests) = if test.0 then Some test.1 else first_of tests

-- the event comes too late
abbrev pub is_old : Cluster → Version → Bool
is_old c version = nat_le version.0 c.version

-- the pod has a place
abbrev pub is_placed : Cluster → Name → Bool
is_placed c uid = contains_key c.places uid

-- the pod has neither a place nor an entry
abbrev pub is_gone : Cluster → Name → Bool → Bool
is_gone c uid queued = not (is_placed c uid) && not queued

-- the node is there
abbrev pub is_there : Cluster → Name → Bool
is_there c node = contains_key c.nodes node

-- the queue has an entry
abbrev pub is_queued : Entry → Bool
is_queued Missing = false
is_queued Elsewhere = true
is_queued (Held request) = true

-- the pass that asks has popped the entry
abbrev pub is_held : Entry → Bool
is_held Missing = false
is_held Elsewhere = false
is_held (Held request) = true

-- the row has room for the request beside what is used
abbrev pub fits_row : Cluster → Name → Request → Option Node → Bool
fits_row c name request None = false
fits_row c name request (Some node) = is_ok (fit_of node.allocatable (used c.places name) request)

-- the pod fits on the node now, assumed places counted
abbrev pub fits_now : Cluster → Name → Entry → Bool
fits_now c node Missing = false
fits_now c node Elsewhere = false
fits_now c node (Held request) = fits_row c node request (get c.nodes node)

-- no ticket is left
abbrev pub are_tickets_gone : Cluster → Bool
are_tickets_gone c = nat_le MAX_TICKET c.ticket

-- the status is Bound
abbrev pub is_bound : Status → Bool
is_bound (Assumed ticket finished) = false
is_bound Bound = true

-- the place was assumed with this ticket
abbrev pub has_ticket : Ticket → Status → Bool
has_ticket given (Assumed ticket finished) = ticket.0 == given.0
has_ticket given Bound = false

-- the place is assumed, and its bind was reported done
abbrev pub is_finished : Status → Bool
is_finished (Assumed ticket finished) = is_some finished
is_finished Bound = false

-- there is a place, and its status passes a test
abbrev pub stands : (Status → Bool) → Option Place → Bool
stands test None = false
stands test (Some place) = test place.status

-- why neither the end of a bind nor its failure is taken, where this ticket names it
abbrev pub refusal_by_ticket : Cluster → Name → Ticket → Bool → Option Refusal
refusal_by_ticket c uid ticket queued =
    first_of
    ((is_gone c uid queued, Gone)
    ∷ (stands is_bound (get c.places uid), Confirmed)
    ∷ (not (stands (has_ticket ticket) (get c.places uid)), StaleTicket)
    ∷ (stands is_finished (get c.places uid), Confirmed)
    ∷ [])

-- the first test of a step that refuses it
abbrev pub refusal : Cluster → ClusterStep → Option Refusal
refusal c (Event (NodeSet version node) queued queue_full) =
    first_of ((is_old c version, Old) ∷ (is_full_for c.nodes c.limits.nodes node.name, Full) ∷ [])
refusal c (Event (NodeGone version name) queued queue_full) =
    first_of ((is_old c version, Old) ∷ (not (is_there c name), NoNode) ∷ [])
refusal c (Event (PodPending version pod) queued queue_full) =
    first_of ((is_old c version, Old) ∷ (is_placed c pod.uid || queued, Known) ∷ (queue_full, Full) ∷ [])
refusal c (Event (PodBound version uid node request) queued queue_full) =
    first_of ((is_old c version, Old) ∷ (is_full_for c.places c.limits.placed uid, Full) ∷ [])
refusal c (Event (PodGone version uid) queued queue_full) =
    first_of ((is_old c version, Old) ∷ (is_gone c uid queued, Gone) ∷ [])
refusal c (Assume uid node entry) =
    first_of
    ((is_gone c uid (is_queued entry), Gone)
    ∷ (is_placed c uid, Placed)
    ∷ (not (is_held entry), NotInFlight)
    ∷ (not (is_there c node), NoNode)
    ∷ (not (fits_now c node entry), NoRoom)
    ∷ (is_full_for c.places c.limits.placed uid || are_tickets_gone c, Full)
    ∷ [])
refusal c (BindDone uid ticket at queued) = refusal_by_ticket c uid ticket queued
refusal c (Forget uid ticket queued) = refusal_by_ticket c uid ticket queued

-- ---- the effects

-- the next ticket
abbrev pub next_ticket : Cluster → Ticket
next_ticket c = record { 0 = c.ticket + 1 }

-- with the pod placed so, in place of where it was
abbrev pub with_place : Cluster → Name → Name → Request → Status → Cluster
with_place c uid node request status =
    record c { places = insert c.places uid (record { node = node; request = request; status = status }) }

-- with the pod placed nowhere
abbrev pub without_place : Cluster → Name → Cluster
without_place c uid = record c { places = remove c.places uid }

-- with the pod assumed on the node, and the next ticket given for it
abbrev pub with_choice : Cluster → Name → Name → Entry → Cluster
with_choice c uid node Missing = c
with_choice c uid node Elsewhere = c
with_choice c uid node (Held request) =
    with_place (record c { ticket = c.ticket + 1 }) uid node request (Assumed (next_ticket c) None)

-- the status once its bind is reported done, at this moment
abbrev pub finished_status : Moment → Status → Status
finished_status at (Assumed ticket finished) = Assumed ticket (Some at)
finished_status at Bound = Bound

-- with the pod's place marked as finished at this moment, if it has one
abbrev pub with_finished : Cluster → Name → Moment → Option Place → Cluster
with_finished c uid at None = c
with_finished c uid at (Some place) = with_place c uid place.node place.request (finished_status at place.status)

-- what an accepted step makes of the book
abbrev pub effect : Cluster → ClusterStep → Cluster
effect c (Event (NodeSet version node) queued queue_full) = record c { version = version.0; nodes = insert c.nodes node.name node }
effect c (Event (NodeGone version name) queued queue_full) = record c { version = version.0; nodes = remove c.nodes name }
effect c (Event (PodPending version pod) queued queue_full) = record c { version = version.0 }
effect c (Event (PodBound version uid node request) queued queue_full) = with_place (record c { version = version.0 }) uid node request Bound
effect c (Event (PodGone version uid) queued queue_full) = without_place (record c { version = version.0 }) uid
effect c (Assume uid node entry) = with_choice c uid node entry
effect c (BindDone uid ticket at queued) = with_finished c uid at (get c.places uid)
effect c (Forget uid ticket queued) = without_place c uid

-- ---- a step

-- a step was taken, or refused for this cause, which changed nothing
abbrev pub IsTaken : {X : Type 0} → Cluster → ClusterStep → Result X Refusal → Cluster → Type 0
IsTaken old step result new =
    MatchResult result
    (λ said. (refusal old step ≡ None) × (new ≡ effect old step))
    (λ why. (refusal old step ≡ Some why) × (new ≡ old))

-- what an accepted step answers
abbrev pub answer : Cluster → ClusterStep → Reply
answer c (Event (PodPending version pod) queued queue_full) = Queue pod
answer c (Assume uid node entry) = Given (next_ticket c)
answer c _ = Done

-- the book after a step: a refused one changes nothing
abbrev pub after : Cluster → ClusterStep → Cluster
after c step = elim (refusal c step) [ None ↦ effect c step | Some why ↦ c ]

-- the answer to a step
abbrev pub reply : Cluster → ClusterStep → Reply
reply c step = elim (refusal c step) [ None ↦ answer c step | Some why ↦ Refused why ]
