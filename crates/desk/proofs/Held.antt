-- What a pass holds is the pod that its last pop of that uid gave.
use Rattle.std.proofs.Common.{◌≡◌, ℕ, Bool, true, false, cond, ◌&&◌, eqb, if◌then◌else◌, Option, None, Some, refl, sym, ap, subst, ◌∙◌}
use Rattle.std.specs.Prelude.{nat_le, MatchOption, ◌+◌}
use Rattle.std.specs.Option.{option_or, option_map}
use Rattle.std.specs.Str.{bytes_eq}
use Rattle.quant.specs.declared.event.Event.TheVariants.{NodeSet, NodeGone, PodPending, PodBound, PodGone}
use Rattle.quant.specs.declared.amount.Moment.{Moment}
use Rattle.quant.specs.declared.name.Name.{Name}
use Rattle.quant.specs.declared.objects.Pod.{Pod}
use Rattle.queued.specs.declared.state.PassNumber.{PassNumber}
use Rattle.queued.specs.declared.state.Failure.{Failure}
use Rattle.queued.specs.declared.state.Failure.TheVariants as failure
use Rattle.queued.specs.declared.state.State.{State as QueueStanding}
use Rattle.queued.specs.declared.state.State.TheVariants.{Active, Backoff, Unschedulable, InFlight}
use Rattle.queue.specs.declared.refusal.Refusal.{Refusal as QueueRefusal}
use Rattle.queued.specs.Entry.{Entry, new_entry, is_in_flight, is_in_flight_for, failed, sent_back, popped, ticked, moved_on, state_after_tick, state_after_move, state_after_failure, was_moved, backed_off}
use Rattle.queue.specs.Order.{Item}
use Rattle.queue.specs.Queue.{QueueState, entry_of, has_entry, all_changed, with_entry, with_change, changed_at, with_popped, unless_refused, refusal_to_add, refusal_to_fail as why_not_fail, refusal_to_forget, next_of, after_add, after_pop, after_fail, after_forget, after_tick, after_move, after_remove}
use Rattle.queue.specs.Calls.{IsNext, NoneActive}
use Rattle.queue.proofs.Next.{pops_the_first}
use Rattle.queue.proofs.Runs.{get-with, get-without, get-all}
use Rattle.book.specs.Cluster.{Places}
use Rattle.book.specs.Expiry.{is_expired, any_expired}
use Rattle.book.specs.Step as book_step
use Rattle.book.specs.Step.{is_placed}
use Rattle.book.specs.declared.refusal.Refusal.{Refusal}
use Rattle.book.specs.declared.step.ClusterStep.{ClusterStep}
use Rattle.book.specs.declared.step.ClusterStep.TheVariants as cluster
use Rattle.desk.specs.declared.step.Step.{Step}
use Rattle.desk.specs.declared.step.Step.TheVariants.{Event, Pop, Assume, BindDone, Forget, Fail, Tick, Count}
use Rattle.desk.specs.declared.step.Reply.{Reply}
use Rattle.desk.specs.declared.step.Reply.TheVariants as replies
use Rattle.desk.specs.Machine.{State, Outcome, step, both, unless, of_node, of_pod, moved, moved_if_placed, entry_at, pass_number, popped as popped_reply, refusal_to_fail, refusal_to_tick, sent_back_if_expired, after_expiry, ticked_to}
use Rattle.desk.specs.History.{if_named, popped_in}
use Rattle.desk.proofs.Expiring.{entry_after_expiry}
use Rattle.desk.proofs.Pods.{pod_of, pod_at, turned}
use Rattle.desk.proofs.Steps.{Agrees, done_by}

-- the pod that a pass holds, if it holds one
abbrev pub held_of : PassNumber → Option Entry → Option Pod
held_of pass None = None
held_of pass (Some entry) = if is_in_flight_for pass entry.state then Some entry.pod else None

abbrev pub held_at : QueueState → ℕ → Name → Option Pod
held_at q pass uid = held_of (pass_number pass) (entry_of q uid)

-- what agreed with what is known still does
abbrev pub Fewer : Option Pod → Option Pod → Type 0
Fewer new old = (known : Option Pod) → Agrees old known → Agrees new known

same_fewer : (new old : Option Pod) → new ≡ old → Fewer new old
same_fewer new old e known h = subst (λ o. Agrees o known) (sym e) h

-- an entry that isn't in flight is held by no pass
unheld : (pass : PassNumber) (e : Entry) → is_in_flight_for pass e.state ≡ false → held_of pass (Some e) ≡ None
unheld pass e h = ap (λ b. if b then Some e.pod else None) h

not_after_failure : (pass : PassNumber) (how : Failure) (b : Bool) (now : Moment) (n : ℕ) → is_in_flight_for pass (state_after_failure how b now n) ≡ false
not_after_failure pass failure.Unschedulable false now n = refl
not_after_failure pass failure.Unschedulable true now n = refl
not_after_failure pass failure.Again b now n = refl

same_after_tick : (pass : PassNumber) (now : Moment) (s : QueueStanding) → is_in_flight_for pass (state_after_tick now s) ≡ is_in_flight_for pass s
same_after_tick pass now Active = refl
same_after_tick pass now (Backoff until) = elim (nat_le until.0 now.0) as (λ b. is_in_flight_for pass (if b then Active else Backoff until) ≡ false) [ true ↦ refl | false ↦ refl ]
same_after_tick pass now (Unschedulable since) = elim (nat_le (since.0 + 300000) now.0) as (λ b. is_in_flight_for pass (if b then Active else Unschedulable since) ≡ false) [ true ↦ refl | false ↦ refl ]
same_after_tick pass now (InFlight p m) = refl

same_after_move : (pass : PassNumber) (now : Moment) (n : ℕ) (s : QueueStanding) → is_in_flight_for pass (state_after_move now n s) ≡ is_in_flight_for pass s
same_after_move pass now n (Unschedulable since) = elim (nat_le (backed_off since n).0 now.0) as (λ b. is_in_flight_for pass (if b then Active else Backoff (backed_off since n)) ≡ false) [ true ↦ refl | false ↦ refl ]
same_after_move pass now n _ = refl

module _ (q : QueueState) (p : ℕ) (uid : Name) where
  -- an entry under a name, which no pass holds
  fewer_with : (u : Name) (e : Entry) → is_in_flight_for (pass_number p) e.state ≡ false → Fewer (held_at (with_entry q u e) p uid) (held_at q p uid)
  fewer_with u e free known h =
      subst (λ o. Agrees (held_of (pass_number p) o) known) (sym (get-with q u e uid ∙ ap (λ b. cond b (Some e) (entry_of q uid)) (turned uid u)))
      (elim (bytes_eq u uid) as (λ b. Agrees (held_of (pass_number p) (cond b (Some e) (entry_of q uid))) known) [ true ↦ subst (λ o. Agrees o known) (sym (unheld (pass_number p) e free)) tt | false ↦ h ])

  fewer_change : (u : Name) (f : Entry → Entry) (o : Option Entry) → ((e : Entry) → is_in_flight_for (pass_number p) (f e).state ≡ false) → Fewer (held_at (with_change q u f o) p uid) (held_at q p uid)
  fewer_change u f None free known h = h
  fewer_change u f (Some e) free known h = fewer_with u (f e) (free e) known h

  fewer_unless : (o : Option QueueRefusal) (new : QueueState) → Fewer (held_at new p uid) (held_at q p uid) → Fewer (held_at (unless_refused o q new) p uid) (held_at q p uid)
  fewer_unless None new e = e
  fewer_unless (Some why) new e = λ known h. h

  -- a change of each that holds as before
  same_all : (f : Entry → Entry) → ((e : Entry) → (f e).pod ≡ e.pod) → ((e : Entry) → is_in_flight_for (pass_number p) (f e).state ≡ is_in_flight_for (pass_number p) e.state) → held_at (all_changed q f) p uid ≡ held_at q p uid
  same_all f pods flies = ap (held_of (pass_number p)) (get-all q f uid) ∙ by (entry_of q uid)
    where
      by : (o : Option Entry) → held_of (pass_number p) (option_map f o) ≡ held_of (pass_number p) o
      by None = refl
      by (Some e) = ap (λ pod. if is_in_flight_for (pass_number p) (f e).state then Some pod else None) (pods e) ∙ ap (λ b. if b then Some e.pod else None) (flies e)

  pub fewer_moved : (now : Moment) → Fewer (held_at (after_move q now) p uid) (held_at q p uid)
  unfolding after_move
  fewer_moved now = same_fewer (held_at (all_changed q (moved_on now)) p uid) (held_at q p uid) (same_all (moved_on now) (λ e. refl) (λ e. same_after_move (pass_number p) now e.attempts e.state))

  pub fewer_ticked : (now : Moment) → Fewer (held_at (after_tick q now) p uid) (held_at q p uid)
  unfolding after_tick
  fewer_ticked now = same_fewer (held_at (all_changed q (ticked now)) p uid) (held_at q p uid) (same_all (ticked now) (λ e. refl) (λ e. same_after_tick (pass_number p) now e.state))

  pub fewer_expired : (places : Places) (now : Moment) → Fewer (held_at (after_expiry q places now) p uid) (held_at q p uid)
  fewer_expired places now known h = subst (λ o. Agrees (held_of (pass_number p) o) known) (sym (entry_after_expiry q places now uid)) (by (entry_of q uid) h)
    where
      by : (o : Option Entry) → Agrees (held_of (pass_number p) o) known → Agrees (held_of (pass_number p) (option_map (sent_back_if_expired places now uid) o)) known
      by None g = g
      by (Some e) g = elim (is_expired places now uid && is_in_flight e.state) as (λ b. Agrees (held_of (pass_number p) (Some (if b then sent_back now e else e))) known) [ true ↦ tt | false ↦ g ]

  pub fewer_failed : (u : Name) (pass : PassNumber) (how : Failure) (now : Moment) → Fewer (held_at (after_fail q u pass how now) p uid) (held_at q p uid)
  unfolding after_fail
  fewer_failed u pass how now = fewer_unless (why_not_fail q u pass) (changed_at q u (failed how now)) (fewer_change u (failed how now) (entry_of q u) (λ e. not_after_failure (pass_number p) how (was_moved e.state) now e.attempts))

  pub fewer_forgotten : (u : Name) (now : Moment) → Fewer (held_at (after_forget q u now) p uid) (held_at q p uid)
  unfolding after_forget
  fewer_forgotten u now = fewer_unless (refusal_to_forget q u) (changed_at q u (sent_back now)) (fewer_change u (sent_back now) (entry_of q u) (λ e. refl))

  pub fewer_added : (pod : Pod) (now : Moment) → Fewer (held_at (after_add q pod now) p uid) (held_at q p uid)
  unfolding after_add
  fewer_added pod now = fewer_unless (refusal_to_add q pod.uid) (with_entry q pod.uid (new_entry pod now)) (fewer_with pod.uid (new_entry pod now) refl)

  pub fewer_removed : (u : Name) → Fewer (held_at (after_remove q u) p uid) (held_at q p uid)
  fewer_removed u known h =
      subst (λ o. Agrees (held_of (pass_number p) o) known) (sym (get-without q u uid ∙ ap (λ b. cond b None (entry_of q uid)) (turned uid u)))
      (elim (bytes_eq u uid) as (λ b. Agrees (held_of (pass_number p) (cond b None (entry_of q uid))) known) [ true ↦ tt | false ↦ h ])

-- each pod waits under its own uid
abbrev pub IsOwn : QueueState → Type 0
IsOwn q = (uid : Name) (pod : Pod) → pod_at q uid ≡ Some pod → pod.uid ≡ uid

-- two tests of names with one outcome
module _ (s : State) (p : ℕ) (q : Name) where
  -- what is held and was popped, after a step that was answered so
  abbrev pub StillHeld : ℕ → State → Reply → Type 0
  StillHeld pass new r = (known : Option Pod) → Agrees (held_at s.queue p q) known → Agrees (held_at new.queue p q) (option_or (popped_in p q pass r) known)

  unless_held : (pass : ℕ) (o : Option Refusal) (done : Outcome) → StillHeld pass done.state done.reply → StillHeld pass (unless o s done).state (unless o s done).reply
  unless_held pass None done h = h
  unless_held pass (Some why) done h = λ known h. h

  both_held : (pass : ℕ) (part : ClusterStep) (queue : QueueState) → StillHeld pass (done_by s part queue).state (done_by s part queue).reply → StillHeld pass (both s part queue).state (both s part queue).reply
  both_held pass part queue h = unless_held pass (book_step.refusal s.cluster part) (done_by s part queue) h

  -- a pop
  pop_held : IsOwn s.queue → (pass : ℕ) → StillHeld pass (step s pass Pop).state (step s pass Pop).reply
  unfolding after_pop
  pop_held own pass = by (next_of s.queue) refl
    where
      here : (item : Item) → item.1.pod.uid ≡ item.0 → (b : Bool) → bytes_eq item.0 q ≡ b → (t : Bool) → eqb pass p ≡ t → (known : Option Pod) → Agrees (held_at s.queue p q) known
          → Agrees (held_of (pass_number p) (cond b (Some (popped (pass_number pass) item.1)) (entry_of s.queue q))) (option_or (if eqb pass p then if_named item.1.pod.uid q item.1.pod else None) known)
      here item uid true is true mine known h =
          let named : bytes_eq item.1.pod.uid q ≡ true = ap (λ u. bytes_eq u q) uid ∙ is in
          rw (mine, named) refl
      here item uid true is false mine known h = rw mine tt
      here item uid false is t mine known h =
          let named : bytes_eq item.1.pod.uid q ≡ false = ap (λ u. bytes_eq u q) uid ∙ is in
          let none : (if eqb pass p then if_named item.1.pod.uid q item.1.pod else None) ≡ None = ap (λ b. if eqb pass p then (if b then Some item.1.pod else None) else None) named ∙ elim (eqb pass p) as (λ b. cond {A = Option Pod} b None None ≡ None) [ true ↦ refl | false ↦ refl ] in
          subst (λ o. Agrees (held_at s.queue p q) (option_or o known)) (sym none) h

      by : (o : Option Item) → next_of s.queue ≡ o → StillHeld pass (record s { queue = with_popped s.queue (pass_number pass) o }) (popped_reply (option_map (λ item. item.1.pod) o))
      by None is = λ known h. h
      by (Some item) is = λ known h.
          let next : IsNext s.queue item = subst (λ o. MatchOption o (NoneActive s.queue) (IsNext s.queue)) is (pops_the_first s.queue) in
          let uid : item.1.pod.uid ≡ item.0 = own item.0 item.1.pod (ap pod_of next.there) in
          subst (λ o. Agrees (held_of (pass_number p) o) (option_or (if eqb pass p then if_named item.1.pod.uid q item.1.pod else None) known))
          (sym (get-with s.queue item.0 (popped (pass_number pass) item.1) q ∙ ap (λ b. cond b (Some (popped (pass_number pass) item.1)) (entry_of s.queue q)) (turned q item.0)))
          (here item uid (bytes_eq item.0 q) refl (eqb pass p) refl known h)

  -- whatever the step
  pub held_step : IsOwn s.queue → (pass : ℕ) (e : Step) → StillHeld pass (step s pass e).state (step s pass e).reply
  held_step own pass (Event (NodeSet version node)) = both_held pass (of_node s (NodeSet version node)) (moved s s.queue) (fewer_moved s.queue p q s.clock)
  held_step own pass (Event (NodeGone version name)) = both_held pass (of_node s (NodeGone version name)) s.queue (λ known h. h)
  held_step own pass (Event (PodPending version pod)) = both_held pass (of_pod s pod.uid (PodPending version pod)) (after_add s.queue pod s.clock) (fewer_added s.queue p q pod s.clock)
  held_step own pass (Event (PodBound version uid node request)) = both_held pass (of_pod s uid (PodBound version uid node request)) (after_remove s.queue uid) (fewer_removed s.queue p q uid)
  held_step own pass (Event (PodGone version uid)) = both_held pass (of_pod s uid (PodGone version uid)) (moved_if_placed s uid (after_remove s.queue uid)) (by (is_placed s.cluster uid))
    where
      by : (b : Bool) → Fewer (held_at (if b then moved s (after_remove s.queue uid) else after_remove s.queue uid) p q) (held_at s.queue p q)
      by true known h = fewer_moved (after_remove s.queue uid) p q s.clock known (fewer_removed s.queue p q uid known h)
      by false known h = fewer_removed s.queue p q uid known h
  held_step own pass Pop = pop_held own pass
  held_step own pass (Assume uid node) = both_held pass (cluster.Assume uid node (entry_at s pass uid)) s.queue (λ known h. h)
  held_step own pass (BindDone uid ticket) = both_held pass (cluster.BindDone uid ticket s.clock (has_entry s.queue uid)) s.queue (λ known h. h)
  held_step own pass (Forget uid ticket) = both_held pass (cluster.Forget uid ticket (has_entry s.queue uid)) (moved s (after_forget s.queue uid s.clock))
      (λ known h. fewer_moved (after_forget s.queue uid s.clock) p q s.clock known (fewer_forgotten s.queue p q uid s.clock known h))
  held_step own pass (Fail uid how) = unless_held pass (refusal_to_fail s pass uid) (record { state = record s { queue = after_fail s.queue uid (pass_number pass) how s.clock }; reply = replies.Done }) (fewer_failed s.queue p q uid (pass_number pass) how s.clock)
  held_step own pass (Tick now) = unless_held pass (refusal_to_tick s now) (record { state = ticked_to s now; reply = replies.Done }) (fewer_to (any_expired s.cluster.places now))
    where
      expired : QueueState
      expired = after_expiry s.queue s.cluster.places now

      fewer_to : (b : Bool) → Fewer (held_at (after_tick (if b then after_move expired now else expired) now) p q) (held_at s.queue p q)
      fewer_to true known h = fewer_ticked (after_move expired now) p q now known (fewer_moved expired p q now known (fewer_expired s.queue p q s.cluster.places now known h))
      fewer_to false known h = fewer_ticked expired p q now known (fewer_expired s.queue p q s.cluster.places now known h)
  held_step own pass Count = λ known h. h
