-- What holds of all legal histories: tickets are given once, a pod has one place or one entry, and
-- what is popped and not answered is what `Count` tells.
use Rattle.std.specs.Prelude.{◌≡◌, ℕ, ◌+◌, not, if◌then◌else◌, List, ◌∷◌, ◌++◌, length, Option, None, Some, is_some, unwrap_or, count_by}
use Rattle.std.specs.Bool.{IsTrue}
use Rattle.std.specs.List.{filter_map}
use Rattle.std.specs.Option.{option_map}
use Rattle.std.specs.FinMap.{entries, get}
use Rattle.quant.specs.declared.event.Event.TheVariants.{PodBound, PodGone}
use Rattle.quant.specs.declared.name.Name.{Name}
use Rattle.quant.specs.declared.version.Ticket.{Ticket}
use Rattle.queued.specs.declared.state.State.{State as QueueStanding}
use Rattle.queued.specs.declared.state.State.TheVariants.{InFlight}
use Rattle.queued.specs.Entry.{Entry}
use Rattle.queue.specs.Queue.{entry_of, has_entry, has_in_flight, counts_of}
use Rattle.book.specs.declared.limits.Limits.{Limits}
use Rattle.book.specs.Step.{is_placed, is_bound, stands}
use Rattle.desk.specs.declared.step.Step.{Step}
use Rattle.desk.specs.declared.step.Step.TheVariants.{Event, Pop, Assume, Fail}
use Rattle.desk.specs.declared.step.Reply.{Reply}
use Rattle.desk.specs.declared.step.Reply.TheVariants.{Done, Popped, Ticket as Given}
use Rattle.desk.specs.Machine.{State, opening, counts}
use Rattle.desk.specs.History.{Call, Legal, one_to, state_after, last_said, if_named}

-- the ticket that an answer gives
abbrev pub ticket_in : Reply → Option Ticket
ticket_in (Given ticket) = Some ticket
ticket_in _ = None

-- no two calls of a legal history are answered by one ticket
abbrev pub TicketsOnce : Type 0
TicketsOnce =
    (limits : Limits) (passes : ℕ) (before between later : List Call) (c d : Call) (ticket : Ticket)
    → Legal limits passes (before ++ c ∷ (between ++ d ∷ later))
    → ticket_in c.reply ≡ Some ticket → ticket_in d.reply ≡ Some ticket → ⊥

-- the tickets that a history gives, in their order
abbrev pub tickets_of : List Call → List ℕ
tickets_of l = filter_map (λ c. option_map (λ ticket. ticket.0) (ticket_in c.reply)) l

-- they are 1, 2, 3, ..
abbrev pub TicketsInOrder : Type 0
TicketsInOrder = (limits : Limits) (passes : ℕ) (l : List Call) → Legal limits passes l → tickets_of l ≡ one_to (length (tickets_of l))

-- a pod that has an entry and a place is in flight
abbrev pub IsOnce : State → Type 0
IsOnce s = (uid : Name) → IsTrue (has_entry s.queue uid) → IsTrue (is_placed s.cluster uid) → IsTrue (has_in_flight s.queue uid)

-- a pod has an entry or a place or neither, and where it has both it is in flight
abbrev pub EntryOrPlace : Type 0
EntryOrPlace = (limits : Limits) (passes : ℕ) (l : List Call) → Legal limits passes l → IsOnce (state_after (opening limits) l)

-- a pod with an assumed place is in flight, and a bound one has no entry
pub record GoesWithPlace (s : State) (uid : Name) : Type 0 where
  pub assumed : IsTrue (stands (λ status. not (is_bound status)) (get s.cluster.places uid)) → IsTrue (has_in_flight s.queue uid)
  pub bound : IsTrue (stands is_bound (get s.cluster.places uid)) → IsTrue (not (has_entry s.queue uid))

-- an entry goes with its pod's place
abbrev pub EntryGoesWithPlace : Type 0
EntryGoesWithPlace = (limits : Limits) (passes : ℕ) (l : List Call) → Legal limits passes l → (uid : Name) → GoesWithPlace (state_after (opening limits) l) uid

-- which pass holds the pod after an answered step of this pass: the one that pops it, or none,
-- where the step ends what a pop began
abbrev pub pop_in : Name → ℕ → Step → Reply → Option (Option ℕ)
pop_in uid pass Pop (Popped pod) = if_named pod.uid uid (Some pass)
pop_in uid pass (Assume other node) (Given ticket) = if_named other uid None
pop_in uid pass (Fail other how) Done = if_named other uid None
pop_in uid pass (Event (PodBound version other node request)) Done = if_named other uid None
pop_in uid pass (Event (PodGone version other)) Done = if_named other uid None
pop_in uid pass other answer = None

-- the pass that popped a pod that was not answered since, if there is one
abbrev pub unanswered_by : List Call → Name → Option ℕ
unanswered_by l uid = unwrap_or (last_said (λ c. pop_in uid c.pass c.step c.reply) l) None

-- the pass that an entry is in flight for
abbrev pub holder : QueueStanding → Option ℕ
holder (InFlight pass moved) = Some pass.0
holder _ = None

abbrev pub holder_of : Option Entry → Option ℕ
holder_of None = None
holder_of (Some entry) = holder entry.state

-- the pass that a pod without a place is in flight for, if there is one
abbrev pub waiting_for : State → Name → Option ℕ
waiting_for s uid = if is_placed s.cluster uid then None else holder_of (entry_of s.queue uid)

-- what each pass popped that was not answered since is what is in flight for it and has no place;
-- of that there is as much as `Count` tells, and all that is in flight beside it are the assumed
-- pods
pub record InFlightIs (s : State) (l : List Call) : Type 0 where
  pub which : (uid : Name) → unanswered_by l uid ≡ waiting_for s uid
  pub count : (counts s).in_flight ≡ count_by (λ item. is_some (waiting_for s item.0)) (entries s.queue.entries)
  pub all : (counts_of s.queue).in_flight ≡ (counts s).in_flight + (counts s).assumed

abbrev pub InFlightIsUnanswered : Type 0
InFlightIsUnanswered = (limits : Limits) (passes : ℕ) (l : List Call) → Legal limits passes l → InFlightIs (state_after (opening limits) l) l
