-- Where a pod stands: its entry and its place go together, and what was popped and not answered is
-- in flight for that pass, without a place.
use Rattle.std.proofs.Common.{◌≡◌, ℕ, Bool, true, false, cond, not, ◌||◌, ◌&&◌, if◌then◌else◌, List, [], ◌∷◌, ◌++◌, Option, None, Some, is_some, unwrap_or, refl, sym, ap, subst, ◌∙◌}
use Rattle.std.specs.Prelude.{⊤, nat_le, ◌+◌, MatchOption}
use Rattle.std.specs.Option.{option_map}
use Rattle.std.specs.Str.{bytes_eq}
use Rattle.std.specs.FinMap as fin
use Rattle.quant.specs.declared.amount.Moment.{Moment}
use Rattle.quant.specs.declared.amount.Request.{Request}
use Rattle.quant.specs.declared.event.Event.TheVariants.{NodeSet, NodeGone, PodPending, PodBound, PodGone}
use Rattle.quant.specs.declared.name.Name.{Name}
use Rattle.quant.specs.declared.objects.Pod.{Pod}
use Rattle.quant.specs.declared.version.Ticket.{Ticket}
use Rattle.quant.specs.declared.version.Version.{Version}
use Rattle.queued.specs.declared.state.PassNumber.{PassNumber}
use Rattle.queued.specs.declared.state.Failure.{Failure}
use Rattle.queued.specs.declared.state.Failure.TheVariants as failure
use Rattle.queued.specs.declared.state.State.{State as QueueStanding}
use Rattle.queued.specs.declared.state.State.TheVariants.{Active, Backoff, Unschedulable, InFlight}
use Rattle.queued.specs.Entry.{Entry as QueueEntry, new_entry, is_active, is_in_flight, is_in_flight_for, failed, sent_back, popped as popped_entry, ticked, moved_on, state_after_tick, state_after_move, state_after_failure, was_moved, backed_off}
use Rattle.queue.specs.Order.{Item}
use Rattle.queue.specs.Queue as queue
use Rattle.queue.specs.Queue.{QueueState, entry_of, has_entry, holds_in_flight, is_full_queue, all_changed, with_entry, with_change, with_popped, unless_refused, refusal_to_add, refusal_to_fail as why_not_fail, refusal_to_forget, next_of, after_add, after_pop, after_fail, after_forget, after_tick, after_move, after_remove}
use Rattle.queue.specs.declared.refusal.Refusal.TheVariants as queue_refusals
use Rattle.queue.specs.Calls.{IsNext, NoneActive}
use Rattle.queue.proofs.Next.{pops_the_first}
use Rattle.queue.proofs.Runs.{get-with, get-without, get-all}
use Rattle.book.specs.declared.limits.Limits.{Limits}
use Rattle.book.specs.declared.place.Place.{Place}
use Rattle.book.specs.declared.place.Status.{Status}
use Rattle.book.specs.declared.place.Status.TheVariants.{Assumed, Bound}
use Rattle.book.specs.declared.refusal.Refusal.{Refusal}
use Rattle.book.specs.declared.refusal.Refusal.TheVariants as refusals
use Rattle.book.specs.declared.entry.Entry.{Entry}
use Rattle.book.specs.declared.entry.Entry.TheVariants.{Missing, Elsewhere, Held}
use Rattle.book.specs.declared.step.ClusterStep.{ClusterStep}
use Rattle.book.specs.declared.step.ClusterStep.TheVariants as cluster
use Rattle.book.specs.Cluster.{name_cmp, Places}
use Rattle.book.specs.Expiry.{has_expired, is_expired, any_expired, unexpired}
use Rattle.book.specs.Step as book_step
use Rattle.book.specs.Step.{is_old, is_gone, is_placed, is_bound, is_finished, has_ticket, stands, finished_status, with_choice, with_finished, next_ticket}
use Rattle.desk.specs.declared.step.Step.{Step}
use Rattle.desk.specs.declared.step.Step.TheVariants.{Event, Pop, Assume, BindDone, Forget, Fail, Tick, Count}
use Rattle.desk.specs.declared.step.Reply.{Reply}
use Rattle.desk.specs.declared.step.Reply.TheVariants as replies
use Rattle.desk.specs.declared.step.Reply.TheVariants.{Refused}
use Rattle.desk.specs.Machine.{State, Outcome, opening, unless, both, step, reply, entry_for, entry_at, pass_number, of_node, of_pod, moved, moved_if_placed, popped, refusal_to_fail, refusal_to_tick, after_expiry, moved_if_expired, ticked_to}
use Rattle.desk.specs.History.{Call, AreAnswered, state_after, last_said, if_named}
use Rattle.desk.specs.Laws.{EntryOrPlace, EntryGoesWithPlace, pop_in, unanswered_by, holder, holder_of, waiting_for}
use Rattle.desk.proofs.Histories.{state_more, append_nil}
use Rattle.desk.proofs.Deciding.{first_three, or_false, not_false}
use Rattle.desk.proofs.Expiring.{get_unexpired, entry_after_expiry}
use Rattle.desk.proofs.Pods.{turned, same_of}
use Rattle.desk.proofs.Held.{IsOwn}
use Rattle.desk.proofs.Steps.{done_by, read_insert, read_remove, same_both, absent, unheld, bound_at, chosen_at, finished_at}
use Rattle.desk.proofs.Readings.{or_else}
use Rattle.desk.proofs.Fair.{together, said_more, answered_part, answered_next, own_after}

-- ---- entries

-- the pass that an entry is in flight for, if there is one, if there is an entry
abbrev pub Flight : Type 0
Flight = Option (Option ℕ)

abbrev pub flight_of : Option QueueEntry → Flight
flight_of o = option_map (λ (entry : QueueEntry). holder entry.state) o

abbrev pub flight_at : QueueState → Name → Flight
flight_at q uid = flight_of (entry_of q uid)

-- an entry that isn't in flight, if there is one
abbrev landed : Flight → Flight
landed o = option_map (λ pass. None) o

grounded_after_failure : (how : Failure) (b : Bool) (now : Moment) (n : ℕ) → holder (state_after_failure how b now n) ≡ None
grounded_after_failure failure.Unschedulable false now n = refl
grounded_after_failure failure.Unschedulable true now n = refl
grounded_after_failure failure.Again b now n = refl

same_after_tick : (now : Moment) (s : QueueStanding) → holder (state_after_tick now s) ≡ holder s
same_after_tick now Active = refl
same_after_tick now (Backoff until) = elim (nat_le until.0 now.0) as (λ b. holder (if b then Active else Backoff until) ≡ None) [ true ↦ refl | false ↦ refl ]
same_after_tick now (Unschedulable since) = elim (nat_le (since.0 + 300000) now.0) as (λ b. holder (if b then Active else Unschedulable since) ≡ None) [ true ↦ refl | false ↦ refl ]
same_after_tick now (InFlight p m) = refl

same_after_move : (now : Moment) (n : ℕ) (s : QueueStanding) → holder (state_after_move now n s) ≡ holder s
same_after_move now n (Unschedulable since) = elim (nat_le (backed_off since n).0 now.0) as (λ b. holder (if b then Active else Backoff (backed_off since n)) ≡ None) [ true ↦ refl | false ↦ refl ]
same_after_move now n _ = refl

-- what a pass holds is in flight for some pass
flies_for : (pass : PassNumber) (s : QueueStanding) → is_in_flight_for pass s ≡ true → (p : ℕ) × (holder s ≡ Some p)
flies_for pass (InFlight p m) h = (p.0, refl)
flies_for pass _ h = absurd (cc)

-- what is in flight is so for some pass
pub flies : (s : QueueStanding) → is_in_flight s ≡ is_some (holder s)
flies Active = refl
flies (Backoff until) = refl
flies (Unschedulable since) = refl
flies (InFlight p m) = refl

-- what isn't is so for none
grounded : (s : QueueStanding) → is_in_flight s ≡ false → holder s ≡ None
grounded (InFlight p m) h = absurd (cc)
grounded _ h = refl

-- what may be popped isn't in flight
active_grounded : (s : QueueStanding) → is_active s ≡ true → holder s ≡ None
active_grounded Active h = refl
active_grounded _ h = absurd (cc)

module _ (q : QueueState) (uid : Name) where
  -- an entry under a name
  flight_with : (u : Name) (e : QueueEntry) → flight_at (with_entry q u e) uid ≡ cond (bytes_eq u uid) (Some (holder e.state)) (flight_at q uid)
  flight_with u e =
      ap flight_of (get-with q u e uid ∙ ap (λ b. cond b (Some e) (entry_of q uid)) (turned uid u))
      ∙ elim (bytes_eq u uid) as (λ b. flight_of (cond b (Some e) (entry_of q uid)) ≡ cond b (Some (holder e.state)) (flight_at q uid)) [ true ↦ refl | false ↦ refl ]

  -- one that isn't in flight
  flight_down : (u : Name) (e : QueueEntry) → holder e.state ≡ None → flight_at (with_entry q u e) uid ≡ cond (bytes_eq u uid) (Some None) (flight_at q uid)
  flight_down u e down = flight_with u e ∙ ap (λ p. cond (bytes_eq u uid) (Some p) (flight_at q uid)) down

  -- a change of each
  flight_all : (f : QueueEntry → QueueEntry) → ((e : QueueEntry) → holder (f e).state ≡ holder e.state) → flight_at (all_changed q f) uid ≡ flight_at q uid
  flight_all f keeps = ap flight_of (get-all q f uid) ∙ by (entry_of q uid)
    where
      by : (o : Option QueueEntry) → flight_of (option_map f o) ≡ flight_of o
      by None = refl
      by (Some e) = ap Some (keeps e)

  flight_moved : (now : Moment) → flight_at (after_move q now) uid ≡ flight_at q uid
  unfolding after_move
  flight_moved now = flight_all (moved_on now) (λ e. same_after_move now e.attempts e.state)

  flight_ticked : (now : Moment) → flight_at (after_tick q now) uid ≡ flight_at q uid
  unfolding after_tick
  flight_ticked now = flight_all (ticked now) (λ e. same_after_tick now e.state)

  -- a pod whose place expires is no longer in flight
  flight_expired : (places : Places) (now : Moment) → flight_at (after_expiry q places now) uid ≡ cond (is_expired places now uid) (landed (flight_at q uid)) (flight_at q uid)
  flight_expired places now = ap flight_of (entry_after_expiry q places now uid) ∙ by (is_expired places now uid) (entry_of q uid)
    where
      sent : (e : QueueEntry) (b : Bool) → is_in_flight e.state ≡ b → Some (holder (if b then sent_back now e else e).state) ≡ Some None
      sent e true up = refl
      sent e false down = ap Some (grounded e.state down)

      by : (b : Bool) (o : Option QueueEntry) → flight_of (option_map (λ (e : QueueEntry). if b && is_in_flight e.state then sent_back now e else e) o) ≡ cond b (landed (flight_of o)) (flight_of o)
      by true None = refl
      by true (Some e) = sent e (is_in_flight e.state) refl
      by false None = refl
      by false (Some e) = refl

  flight_removed : (u : Name) → flight_at (after_remove q u) uid ≡ cond (bytes_eq u uid) None (flight_at q uid)
  flight_removed u =
      ap flight_of (get-without q u uid ∙ ap (λ b. cond b None (entry_of q uid)) (turned uid u))
      ∙ elim (bytes_eq u uid) as (λ b. flight_of (cond b None (entry_of q uid)) ≡ cond b None (flight_at q uid)) [ true ↦ refl | false ↦ refl ]

  flight_added : (pod : Pod) (now : Moment) → has_entry q pod.uid ≡ false → is_full_queue q ≡ false → flight_at (after_add q pod now) uid ≡ cond (bytes_eq pod.uid uid) (Some None) (flight_at q uid)
  unfolding after_add refusal_to_add
  flight_added pod now new room = rw (new, room) (flight_with pod.uid (new_entry pod now))

  -- a failure of what the pass holds
  flight_failed : (u : Name) (pass : PassNumber) (how : Failure) (now : Moment) → holds_in_flight q pass u ≡ true → flight_at (after_fail q u pass how now) uid ≡ cond (bytes_eq u uid) (Some None) (flight_at q uid)
  unfolding after_fail why_not_fail
  flight_failed u pass how now holds = rw holds (by (entry_of q u) holds)
    where
      by : (o : Option QueueEntry) → queue.stands (λ entry. is_in_flight_for pass entry.state) o ≡ true → flight_at (with_change q u (failed how now) o) uid ≡ cond (bytes_eq u uid) (Some None) (flight_at q uid)
      by None held = absurd (cc)
      by (Some e) held = flight_down u (failed how now e) (grounded_after_failure how (was_moved e.state) now e.attempts)

  -- what is sent back is no longer in flight, whatever it was before
  flight_forgotten : (u : Name) (now : Moment) → flight_at (after_forget q u now) uid ≡ cond (bytes_eq u uid) (landed (flight_at q uid)) (flight_at q uid)
  unfolding after_forget refusal_to_forget
  flight_forgotten u now = by (entry_of q u) refl
    where
      sent : (e : QueueEntry) → entry_of q u ≡ Some e → (b : Bool) → is_in_flight e.state ≡ b
          → flight_at (unless_refused (if b then None else Some queue_refusals.NotInFlight) q (with_entry q u (sent_back now e))) uid ≡ cond (bytes_eq u uid) (landed (flight_at q uid)) (flight_at q uid)
      sent e is true up = flight_down u (sent_back now e) refl ∙ here (bytes_eq u uid) refl
        where
          here : (b : Bool) → bytes_eq u uid ≡ b → cond b (Some None) (flight_at q uid) ≡ cond b (landed (flight_at q uid)) (flight_at q uid)
          here true same = sym (ap (λ o. landed (flight_of o)) (ap (entry_of q) (sym (same_of u uid same)) ∙ is))
          here false other = refl
      sent e is false down = here (bytes_eq u uid) refl
        where
          here : (b : Bool) → bytes_eq u uid ≡ b → flight_at q uid ≡ cond b (landed (flight_at q uid)) (flight_at q uid)
          here true same =
              let there : flight_at q uid ≡ Some None = ap flight_of (ap (entry_of q) (sym (same_of u uid same)) ∙ is) ∙ ap Some (grounded e.state down) in
              there ∙ sym (ap landed there)
          here false other = refl

      by : (o : Option QueueEntry) → entry_of q u ≡ o
          → flight_at (unless_refused (if queue.stands (λ entry. is_in_flight entry.state) o then None else Some queue_refusals.NotInFlight) q (with_change q u (sent_back now) o)) uid ≡ cond (bytes_eq u uid) (landed (flight_at q uid)) (flight_at q uid)
      by None is = here (bytes_eq u uid) refl
        where
          here : (b : Bool) → bytes_eq u uid ≡ b → flight_at q uid ≡ cond b (landed (flight_at q uid)) (flight_at q uid)
          here true same =
              let there : flight_at q uid ≡ None = ap flight_of (ap (entry_of q) (sym (same_of u uid same)) ∙ is) in
              there ∙ sym (ap landed there)
          here false other = refl
      by (Some e) is = sent e is (is_in_flight e.state) refl

-- ---- places

-- whether a place is bound, if there is one
abbrev pub hold_of : Option Place → Option Bool
hold_of o = option_map (λ (place : Place). is_bound place.status) o

same_hold : (at : Moment) (status : Status) → is_bound (finished_status at status) ≡ is_bound status
same_hold at (Assumed ticket finished) = refl
same_hold at Bound = refl

-- ---- the two together

-- what stands together: an assumed place and an entry in flight, or a bound place and no entry, or
-- no place
abbrev pub Fits : Flight → Option Bool → Type 0
Fits flight None = ⊤
Fits flight (Some true) = flight ≡ None
Fits flight (Some false) = (pass : ℕ) × (flight ≡ Some (Some pass))

-- the pass that a pod is in flight for, where it has no place
abbrev pub waits_by : Flight → Option Bool → Option ℕ
waits_by flight None = unwrap_or flight None
waits_by flight (Some is_told) = None

-- a step that says this keeps together what fits, and tells which pass the pod waits for
record Keeps (flight : Flight) (hold : Option Bool) (new : Flight) (now : Option Bool) (says : Flight) : Type 0 where
  fits : Fits flight hold → Fits new now
  waits : Fits flight hold → waits_by new now ≡ unwrap_or says (waits_by flight hold)

-- where nothing changes
same_keeps : (flight : Flight) (hold : Option Bool) (new : Flight) (now : Option Bool) (says : Flight) → new ≡ flight → now ≡ hold → says ≡ None → Keeps flight hold new now says
same_keeps flight hold new now says e f t = record {
  fits = λ h. subst (λ x. Fits x now) (sym e) (subst (λ y. Fits flight y) (sym f) h);
  waits = λ h. (λ i. waits_by (e i) (f i)) ∙ ap (λ o. unwrap_or o (waits_by flight hold)) (sym t);
}

-- where all that changes is of one name
keeps_at : (b : Bool) (flight : Flight) (hold : Option Bool) (here : Flight) (there : Option Bool) (new : Flight) (now : Option Bool) (own says : Flight)
    → new ≡ cond b here flight → now ≡ cond b there hold → says ≡ cond b own None
    → (b ≡ true → Fits flight hold → Fits here there × (waits_by here there ≡ unwrap_or own (waits_by flight hold))) → Keeps flight hold new now says
keeps_at true flight hold here there new now own says e f t of = record {
  fits = λ h. subst (λ x. Fits x now) (sym e) (subst (λ y. Fits here y) (sym f) (of refl h).0);
  waits = λ h. (λ i. waits_by (e i) (f i)) ∙ (of refl h).1 ∙ ap (λ o. unwrap_or o (waits_by flight hold)) (sym t);
}
keeps_at false flight hold here there new now own says e f t of = same_keeps flight hold new now says e f t

-- a pod with a place doesn't wait
placed_waits : (flight : Flight) (hold : Option Bool) → is_some hold ≡ true → waits_by flight hold ≡ None
placed_waits flight None h = absurd (cc)
placed_waits flight (Some b) h = refl

-- nor does one without an entry in flight
grounded_waits : (hold : Option Bool) → waits_by (Some None) hold ≡ None
grounded_waits None = refl
grounded_waits (Some b) = refl

absent_waits : (hold : Option Bool) → waits_by None hold ≡ None
absent_waits None = refl
absent_waits (Some b) = refl

-- an entry that isn't in flight has no place beside it
loose : (hold : Option Bool) → Fits (Some None) hold → hold ≡ None
loose None h = refl
loose (Some true) h = absurd (cc)
loose (Some false) h = let up = h.1 in absurd (cc)

-- ---- refused steps

pop_refused : (q : Name) (pass : ℕ) (e : Step) (why : Refusal) → pop_in q pass e (Refused why) ≡ None
pop_refused q pass (Event (NodeSet version node)) why = refl
pop_refused q pass (Event (NodeGone version node)) why = refl
pop_refused q pass (Event (PodPending version pod)) why = refl
pop_refused q pass (Event (PodBound version uid node request)) why = refl
pop_refused q pass (Event (PodGone version uid)) why = refl
pop_refused q pass Pop why = refl
pop_refused q pass (Assume uid node) why = refl
pop_refused q pass (BindDone uid ticket) why = refl
pop_refused q pass (Forget uid ticket) why = refl
pop_refused q pass (Fail uid how) why = refl
pop_refused q pass (Tick now) why = refl
pop_refused q pass Count why = refl

-- what a pass may place is in flight
held_flies : (pass : PassNumber) (o : Option QueueEntry) (request : Request) → entry_for pass o ≡ Held request → (p : ℕ) × (flight_of o ≡ Some (Some p))
held_flies pass None request is = absurd (cc)
held_flies pass (Some entry) request is = by (is_in_flight_for pass entry.state) refl is
  where
    by : (b : Bool) → is_in_flight_for pass entry.state ≡ b → (if b then Held entry.pod.request else Elsewhere) ≡ Held request → (p : ℕ) × (Some (holder entry.state) ≡ Some (Some p))
    by true mine e = let up = flies_for pass entry.state mine in (up.0, ap Some up.1)
    by false mine e = absurd (cc)

-- ---- the steps

module _ (s : State) (q : Name) where
  abbrev flight_now : Flight
  flight_now = flight_at s.queue q

  abbrev hold_now : Option Bool
  hold_now = hold_of (fin.get s.cluster.places q)

  -- a step that is answered so keeps what is known of the name
  abbrev KeepsBy : ℕ → Step → State → Reply → Type 0
  KeepsBy pass e new r = Keeps flight_now hold_now (flight_at new.queue q) (hold_of (fin.get new.cluster.places q)) (pop_in q pass e r)

  unless_keeps : (pass : ℕ) (e : Step) (o : Option Refusal) (done : Outcome) → (o ≡ None → KeepsBy pass e done.state done.reply) → KeepsBy pass e (unless o s done).state (unless o s done).reply
  unless_keeps pass e None done h = h refl
  unless_keeps pass e (Some why) done h = same_keeps flight_now hold_now flight_now hold_now (pop_in q pass e (Refused why)) refl refl (pop_refused q pass e why)

  both_keeps : (pass : ℕ) (e : Step) (part : ClusterStep) (rest : QueueState) → (book_step.refusal s.cluster part ≡ None → KeepsBy pass e (done_by s part rest).state (done_by s part rest).reply) → KeepsBy pass e (both s part rest).state (both s part rest).reply
  both_keeps pass e part rest h = unless_keeps pass e (book_step.refusal s.cluster part) (done_by s part rest) h

  -- a name that has nothing
  unplaced : (uid : Name) → bytes_eq uid q ≡ true → is_placed s.cluster uid ≡ false → hold_now ≡ None
  unplaced uid is none = ap hold_of (ap (fin.get s.cluster.places) (sym (same_of uid q is)) ∙ absent (fin.get s.cluster.places uid) none)

  vacant : (uid : Name) → bytes_eq uid q ≡ true → has_entry s.queue uid ≡ false → flight_now ≡ None
  vacant uid is none = ap flight_of (ap (entry_of s.queue) (sym (same_of uid q is)) ∙ absent (entry_of s.queue uid) none)

  pending_keeps : (version : Version) (pod : Pod) (pass : ℕ) → KeepsBy pass (Event (PodPending version pod)) (step s pass (Event (PodPending version pod))).state (step s pass (Event (PodPending version pod))).reply
  pending_keeps version pod pass = both_keeps pass (Event (PodPending version pod)) (of_pod s pod.uid (PodPending version pod)) (after_add s.queue pod s.clock) (λ none.
      let passed = first_three (is_old s.cluster version) (is_placed s.cluster pod.uid || has_entry s.queue pod.uid) (is_full_queue s.queue) refusals.Old refusals.Known refusals.Full [] none in
      let apart = or_false (is_placed s.cluster pod.uid) (has_entry s.queue pod.uid) passed.1 in
      let b = bytes_eq pod.uid q in
      keeps_at b flight_now hold_now (Some None) hold_now (flight_at (after_add s.queue pod s.clock) q) hold_now None None
      (flight_added s.queue q pod s.clock apart.1 passed.2) (sym (same_both b hold_now)) (sym (same_both b None))
      (λ is h. (
        subst (λ x. Fits (Some None) x) (sym (unplaced pod.uid is apart.0)) tt,
        grounded_waits hold_now ∙ sym (ap (λ x. waits_by x hold_now) (vacant pod.uid is apart.1) ∙ absent_waits hold_now),
      )))

  bound_keeps : (version : Version) (uid node : Name) (request : Request) (pass : ℕ) → KeepsBy pass (Event (PodBound version uid node request)) (step s pass (Event (PodBound version uid node request))).state (step s pass (Event (PodBound version uid node request))).reply
  bound_keeps version uid node request pass = both_keeps pass (Event (PodBound version uid node request)) (of_pod s uid (PodBound version uid node request)) (after_remove s.queue uid) (λ none.
      keeps_at (bytes_eq uid q) flight_now hold_now None (Some true) (flight_at (after_remove s.queue uid) q) (hold_of (fin.get (fin.insert s.cluster.places uid (bound_at node request)) q)) (Some None) (if_named uid q None)
      (flight_removed s.queue q uid) (read_insert hold_of s.cluster.places uid q (bound_at node request)) refl (λ is h. (refl, refl)))

  gone_keeps : (version : Version) (uid : Name) (pass : ℕ) → KeepsBy pass (Event (PodGone version uid)) (step s pass (Event (PodGone version uid))).state (step s pass (Event (PodGone version uid))).reply
  gone_keeps version uid pass = both_keeps pass (Event (PodGone version uid)) (of_pod s uid (PodGone version uid)) (moved_if_placed s uid (after_remove s.queue uid)) (λ none.
      keeps_at (bytes_eq uid q) flight_now hold_now None None (flight_at (moved_if_placed s uid (after_remove s.queue uid)) q) (hold_of (fin.get (fin.remove s.cluster.places uid) q)) (Some None) (if_named uid q None)
      (either (is_placed s.cluster uid) ∙ flight_removed s.queue q uid) (read_remove hold_of s.cluster.places uid q) refl (λ is h. (tt, refl)))
    where
      either : (b : Bool) → flight_at (if b then moved s (after_remove s.queue uid) else after_remove s.queue uid) q ≡ flight_at (after_remove s.queue uid) q
      either true = flight_moved (after_remove s.queue uid) q s.clock
      either false = refl

  pop_keeps : IsOwn s.queue → (pass : ℕ) → KeepsBy pass Pop (step s pass Pop).state (step s pass Pop).reply
  unfolding after_pop
  pop_keeps own pass = by (next_of s.queue) refl
    where
      by : (o : Option Item) → next_of s.queue ≡ o → KeepsBy pass Pop (record s { queue = with_popped s.queue (pass_number pass) o }) (popped (option_map (λ item. item.1.pod) o))
      by None is = same_keeps flight_now hold_now flight_now hold_now None refl refl refl
      by (Some item) is =
          let next : IsNext s.queue item = subst (λ o. MatchOption o (NoneActive s.queue) (IsNext s.queue)) is (pops_the_first s.queue) in
          let uid : item.1.pod.uid ≡ item.0 = own item.0 item.1.pod (ap (option_map (λ (entry : QueueEntry). entry.pod)) next.there) in
          let b = bytes_eq item.0 q in
          keeps_at b flight_now hold_now (Some (Some pass)) hold_now (flight_at (with_entry s.queue item.0 (popped_entry (pass_number pass) item.1)) q) hold_now (Some (Some pass)) (if_named item.1.pod.uid q (Some pass))
          (flight_with s.queue q item.0 (popped_entry (pass_number pass) item.1)) (sym (same_both b hold_now)) (ap (λ u. if_named u q (Some pass)) uid)
          (λ here h.
          let down : flight_now ≡ Some None = ap flight_of (ap (entry_of s.queue) (sym (same_of item.0 q here)) ∙ next.there) ∙ ap Some (active_grounded item.1.state next.active) in
          let none : hold_now ≡ None = loose hold_now (subst (λ x. Fits x hold_now) down h) in
          (subst (λ x. Fits (Some (Some pass)) x) (sym none) tt, ap (waits_by (Some (Some pass))) none))

  -- a choice, where the entry is the pass's
  chosen_keeps : (pass : ℕ) (uid node : Name) (entry : Entry) → ((request : Request) → entry ≡ Held request → (p : ℕ) × (flight_at s.queue uid ≡ Some (Some p)))
      → book_step.refusal s.cluster (cluster.Assume uid node entry) ≡ None
      → KeepsBy pass (Assume uid node) (record s { cluster = with_choice s.cluster uid node entry }) (replies.Ticket (next_ticket s.cluster))
  chosen_keeps pass uid node Missing held none = absurd (unheld s q uid node Missing refl none)
  chosen_keeps pass uid node Elsewhere held none = absurd (unheld s q uid node Elsewhere refl none)
  chosen_keeps pass uid node (Held request) held none =
      let b = bytes_eq uid q in
      keeps_at b flight_now hold_now flight_now (Some false) flight_now (hold_of (fin.get (fin.insert s.cluster.places uid (chosen_at s node request)) q)) (Some None) (if_named uid q None)
      (sym (same_both b flight_now)) (read_insert hold_of s.cluster.places uid q (chosen_at s node request)) refl
      (λ is h. let up = held request refl in ((up.0, ap (flight_at s.queue) (sym (same_of uid q is)) ∙ up.1), refl))

  finished_keeps : (pass : ℕ) (uid : Name) (ticket : Ticket) (o : Option Place) → fin.get s.cluster.places uid ≡ o → KeepsBy pass (BindDone uid ticket) (record s { cluster = with_finished s.cluster uid s.clock o }) replies.Done
  finished_keeps pass uid ticket None is = same_keeps flight_now hold_now flight_now hold_now None refl refl refl
  finished_keeps pass uid ticket (Some place) is =
      same_keeps flight_now hold_now flight_now (hold_of (fin.get (fin.insert s.cluster.places uid (finished_at s place)) q)) None refl
      (read_insert hold_of s.cluster.places uid q (finished_at s place) ∙ here (bytes_eq uid q) refl) refl
    where
      here : (b : Bool) → bytes_eq uid q ≡ b → cond b (hold_of (Some (finished_at s place))) hold_now ≡ hold_now
      here true same = ap Some (same_hold s.clock place.status) ∙ sym (ap hold_of (ap (fin.get s.cluster.places) (sym (same_of uid q same)) ∙ is))
      here false other = refl

  -- a place that a ticket names is there
  named_place : (ticket : Ticket) (o : Option Place) → not (stands (has_ticket ticket) o) ≡ false → is_some (hold_of o) ≡ true
  named_place ticket None h = absurd (cc)
  named_place ticket (Some place) h = refl

  forget_keeps : (uid : Name) (ticket : Ticket) (pass : ℕ) → KeepsBy pass (Forget uid ticket) (step s pass (Forget uid ticket)).state (step s pass (Forget uid ticket)).reply
  forget_keeps uid ticket pass = both_keeps pass (Forget uid ticket) (cluster.Forget uid ticket (has_entry s.queue uid)) (moved s (after_forget s.queue uid s.clock)) (λ none.
      let o = fin.get s.cluster.places uid in
      let passed = first_three (is_gone s.cluster uid (has_entry s.queue uid)) (stands is_bound o) (not (stands (has_ticket ticket) o)) refusals.Gone refusals.Confirmed refusals.StaleTicket ((stands is_finished o, refusals.Confirmed) ∷ []) none in
      let b = bytes_eq uid q in
      keeps_at b flight_now hold_now (landed flight_now) None (flight_at (moved s (after_forget s.queue uid s.clock)) q) (hold_of (fin.get (fin.remove s.cluster.places uid) q)) None None
      (flight_moved (after_forget s.queue uid s.clock) q s.clock ∙ flight_forgotten s.queue q uid s.clock) (read_remove hold_of s.cluster.places uid q) (sym (same_both b None))
      (λ is h. (
        tt,
        down flight_now ∙ sym (placed_waits flight_now hold_now (subst (λ u. is_some (hold_of (fin.get s.cluster.places u)) ≡ true) (same_of uid q is) (named_place ticket o passed.2))),
      )))
    where
      down : (o : Flight) → waits_by (landed o) None ≡ None
      down None = refl
      down (Some b) = refl

  -- a place that is there
  placed_now : (now : Moment) (o : Option Place) → stands (has_expired now) o ≡ true → is_some (hold_of o) ≡ true
  placed_now now None h = absurd (cc)
  placed_now now (Some place) h = refl

  hold_if : (b : Bool) (o : Option Place) → hold_of (cond b None o) ≡ cond b None (hold_of o)
  hold_if true o = refl
  hold_if false o = refl

  tick_keeps : (pass : ℕ) (now : Moment) → KeepsBy pass (Tick now) (ticked_to s now) replies.Done
  tick_keeps pass now =
      let b = is_expired s.cluster.places now q in
      keeps_at b flight_now hold_now (landed flight_now) None (flight_at (ticked_to s now).queue q) (hold_of (fin.get (unexpired s.cluster.places now) q)) None None
      (flight_ticked (moved_if_expired s now expired) q now ∙ either (any_expired s.cluster.places now) ∙ flight_expired s.queue q s.cluster.places now)
      (ap hold_of (get_unexpired s.cluster.places now q) ∙ hold_if b (fin.get s.cluster.places q)) (sym (same_both b None))
      (λ is h. (tt, down flight_now ∙ sym (placed_waits flight_now hold_now (placed_now now (fin.get s.cluster.places q) is))))
    where
      expired : QueueState
      expired = after_expiry s.queue s.cluster.places now

      either : (b : Bool) → flight_at (if b then after_move expired now else expired) q ≡ flight_at expired q
      either true = flight_moved expired q now
      either false = refl

      down : (o : Flight) → waits_by (landed o) None ≡ None
      down None = refl
      down (Some b) = refl

  fail_keeps : (uid : Name) (how : Failure) (pass : ℕ) → KeepsBy pass (Fail uid how) (step s pass (Fail uid how)).state (step s pass (Fail uid how)).reply
  fail_keeps uid how pass = unless_keeps pass (Fail uid how) (refusal_to_fail s pass uid) (record { state = record s { queue = after_fail s.queue uid (pass_number pass) how s.clock }; reply = replies.Done }) (λ none.
      let passed = first_three (not (has_entry s.queue uid) && not (is_placed s.cluster uid)) (is_placed s.cluster uid) (not (holds_in_flight s.queue (pass_number pass) uid)) refusals.Gone refusals.Placed refusals.NotInFlight [] none in
      let b = bytes_eq uid q in
      keeps_at b flight_now hold_now (Some None) hold_now (flight_at (after_fail s.queue uid (pass_number pass) how s.clock) q) hold_now (Some None) (if_named uid q None)
      (flight_failed s.queue q uid (pass_number pass) how s.clock (not_false (holds_in_flight s.queue (pass_number pass) uid) passed.2)) (sym (same_both b hold_now)) refl
      (λ is h. (subst (λ x. Fits (Some None) x) (sym (unplaced uid is passed.1)) tt, grounded_waits hold_now)))

  -- whatever the step
  step_keeps : IsOwn s.queue → (pass : ℕ) (e : Step) → KeepsBy pass e (step s pass e).state (step s pass e).reply
  step_keeps own pass (Event (NodeSet version node)) = both_keeps pass (Event (NodeSet version node)) (of_node s (NodeSet version node)) (moved s s.queue) (λ none.
      same_keeps flight_now hold_now (flight_at (moved s s.queue) q) hold_now None (flight_moved s.queue q s.clock) refl refl)
  step_keeps own pass (Event (NodeGone version name)) = both_keeps pass (Event (NodeGone version name)) (of_node s (NodeGone version name)) s.queue (λ none. same_keeps flight_now hold_now flight_now hold_now None refl refl refl)
  step_keeps own pass (Event (PodPending version pod)) = pending_keeps version pod pass
  step_keeps own pass (Event (PodBound version uid node request)) = bound_keeps version uid node request pass
  step_keeps own pass (Event (PodGone version uid)) = gone_keeps version uid pass
  step_keeps own pass Pop = pop_keeps own pass
  step_keeps own pass (Assume uid node) = both_keeps pass (Assume uid node) (cluster.Assume uid node (entry_at s pass uid)) s.queue (chosen_keeps pass uid node (entry_at s pass uid) (held_flies (pass_number pass) (entry_of s.queue uid)))
  step_keeps own pass (BindDone uid ticket) = both_keeps pass (BindDone uid ticket) (cluster.BindDone uid ticket s.clock (has_entry s.queue uid)) s.queue (λ none. finished_keeps pass uid ticket (fin.get s.cluster.places uid) refl)
  step_keeps own pass (Forget uid ticket) = forget_keeps uid ticket pass
  step_keeps own pass (Fail uid how) = fail_keeps uid how pass
  step_keeps own pass (Tick now) = unless_keeps pass (Tick now) (refusal_to_tick s now) (record { state = ticked_to s now; reply = replies.Done }) (λ none. tick_keeps pass now)
  step_keeps own pass Count = same_keeps flight_now hold_now flight_now hold_now None refl refl refl

-- ---- whole histories

-- what is known of a name: its entry and its place fit, and it waits for the pass that the history
-- has it unanswered by
pub record Stands (s : State) (l : List Call) (q : Name) : Type 0 where
  pub fits : Fits (flight_at s.queue q) (hold_of (fin.get s.cluster.places q))
  pub waits : waits_by (flight_at s.queue q) (hold_of (fin.get s.cluster.places q)) ≡ unanswered_by l q

module _ (limits : Limits) (l : List Call) (all : AreAnswered (opening limits) l) (q : Name) where
  abbrev pub StandsAfter : List Call → Type 0
  StandsAfter k = Stands (state_after (opening limits) k) k q

  stands_next : (before : List Call) (c : Call) → AreAnswered (opening limits) before → c.reply ≡ reply (state_after (opening limits) before) c.pass c.step → StandsAfter before → StandsAfter (before ++ c ∷ [])
  stands_next before c given told h =
      let s = state_after (opening limits) before in
      let one = subst (λ r. KeepsBy s q c.pass c.step (step s c.pass c.step).state r) (sym told) (step_keeps s q (own_after limits before given) c.pass c.step) in
      let says = λ (d : Call). pop_in q d.pass d.step d.reply in
      subst (λ (t : State). Stands t (before ++ c ∷ []) q) (sym (state_more (opening limits) before c)) (record {
        fits = one.fits h.fits;
        waits =
            one.waits h.fits ∙ ap (unwrap_or (says c)) h.waits ∙ sym (or_else (says c) (last_said says before) None)
            ∙ ap (λ o. unwrap_or o None) (sym (said_more says before c));
      })

  stands_from : (before later : List Call) → l ≡ before ++ later → StandsAfter before → StandsAfter l
  stands_from before [] e h = subst StandsAfter (sym (e ∙ append_nil before)) h
  stands_from before (c ∷ later) e h =
      let given = subst (AreAnswered (opening limits)) e all in
      stands_from (before ++ c ∷ []) later (e ∙ together before later c)
      (stands_next before c (answered_part (opening limits) before (c ∷ later) given) (answered_next (opening limits) before c later given) h)

  pub stands_after : StandsAfter l
  stands_after = stands_from [] l refl (record {
    fits = subst (λ o. Fits (flight_at (opening limits).queue q) (hold_of o)) (sym (fin.get-empty name_cmp q)) tt;
    waits = ap (λ o. waits_by (flight_of o) (hold_of (fin.get (opening limits).cluster.places q))) (fin.get-empty name_cmp q) ∙ absent_waits (hold_of (fin.get (opening limits).cluster.places q));
  })

-- ---- what is promised

-- an entry beside an assumed place is in flight
assumed_flies : (entry : Option QueueEntry) (pass : ℕ) → flight_of entry ≡ Some (Some pass) → queue.stands (λ (x : QueueEntry). is_in_flight x.state) entry ≡ true
assumed_flies None pass h = absurd (cc)
assumed_flies (Some entry) pass h =
    let up : holder entry.state ≡ Some pass = cc in
    flies entry.state ∙ ap is_some up

-- and beside a bound place there is none
bound_bare : (entry : Option QueueEntry) → flight_of entry ≡ None → is_some entry ≡ false
bound_bare None h = refl
bound_bare (Some entry) h = absurd (cc)

-- where there are both the place is assumed
both_fly : (entry : Option QueueEntry) (hold : Option Bool) → Fits (flight_of entry) hold → is_some entry ≡ true → is_some hold ≡ true → queue.stands (λ (x : QueueEntry). is_in_flight x.state) entry ≡ true
both_fly entry None h has placed = absurd (cc)
both_fly entry (Some true) h has placed = let bare = bound_bare entry h in absurd (cc)
both_fly entry (Some false) h has placed = assumed_flies entry h.0 h.1

placed_held : (place : Option Place) → is_some place ≡ true → is_some (hold_of place) ≡ true
placed_held None h = h
placed_held (Some place) h = refl

pub entry_or_place : EntryOrPlace
entry_or_place limits passes l legal uid has placed =
    let s = state_after (opening limits) l in
    both_fly (entry_of s.queue uid) (hold_of (fin.get s.cluster.places uid)) (stands_after limits l legal.history.answered uid).fits has (placed_held (fin.get s.cluster.places uid) placed)

-- an entry goes with the place's status
by_status : (entry : Option QueueEntry) (status : Status) → Fits (flight_of entry) (Some (is_bound status))
    → (not (is_bound status) ≡ true → queue.stands (λ (x : QueueEntry). is_in_flight x.state) entry ≡ true) × (is_bound status ≡ true → not (is_some entry) ≡ true)
by_status entry (Assumed ticket finished) h = (λ t. assumed_flies entry h.0 h.1, λ t. absurd (cc))
by_status entry Bound h = (λ t. absurd (cc), λ t. ap not (bound_bare entry h))

by_place : (entry : Option QueueEntry) (place : Option Place) → Fits (flight_of entry) (hold_of place)
    → (stands (λ status. not (is_bound status)) place ≡ true → queue.stands (λ (x : QueueEntry). is_in_flight x.state) entry ≡ true) × (stands is_bound place ≡ true → not (is_some entry) ≡ true)
by_place entry None h = (λ t. absurd (cc), λ t. absurd (cc))
by_place entry (Some place) h = by_status entry place.status h

pub goes_with_place : EntryGoesWithPlace
goes_with_place limits passes l legal uid =
    let s = state_after (opening limits) l in
    let parts = by_place (entry_of s.queue uid) (fin.get s.cluster.places uid) (stands_after limits l legal.history.answered uid).fits in
    record { assumed = parts.0; bound = parts.1 }

-- the two ways to say which pass a pod waits for
waits_is : (entry : Option QueueEntry) (place : Option Place) → waits_by (flight_of entry) (hold_of place) ≡ (if is_some place then None else holder_of entry)
waits_is None None = refl
waits_is (Some entry) None = refl
waits_is entry (Some place) = refl

pub unanswered_waits : (limits : Limits) (l : List Call) → AreAnswered (opening limits) l → (uid : Name) → unanswered_by l uid ≡ waiting_for (state_after (opening limits) l) uid
unanswered_waits limits l all uid =
    let s = state_after (opening limits) l in
    sym (stands_after limits l all uid).waits ∙ waits_is (entry_of s.queue uid) (fin.get s.cluster.places uid)
