-- Each pod that the desk was offered is in its queue, by the row by which it was offered.
use Rattle.std.proofs.Common.{◌≡◌, ◌∙◌, Bool, true, false, cond, ◌||◌, if◌then◌else◌, ℕ, [], Option, Some, None, Result, Ok, Err, ◌⊎◌, inl, inr, unwrap_or, refl, sym, ap, subst}
use Rattle.std.specs.Option.{option_map}
use Rattle.std.specs.Str.{bytes_eq}
use Rattle.std.specs.Cmp.Lexicographic.{bytes_decides, nat_list_cmp_total}
use Rattle.std.specs.FinMap.{FinMap, get, get-insert, get-remove, get-empty, insert, remove}
use Rattle.quant.specs.declared.amount.Moment.{Moment}
use Rattle.quant.specs.declared.name.Name.{Name}
use Rattle.quant.specs.declared.objects.Pod.{Pod}
use Rattle.quant.specs.declared.version.Ticket.{Ticket}
use Rattle.quant.specs.declared.version.Version.{Version}
use Rattle.quant.specs.declared.event.Event.{Event as Watched}
use Rattle.quant.specs.declared.event.Event.TheVariants.{NodeSet, NodeGone, PodPending, PodBound, PodGone}
use Rattle.queued.specs.Entry.{Entry}
use Rattle.queue.specs.Queue.{QueueState, entry_of, has_entry, is_full_queue, after_add, after_fail, after_forget, after_move, after_pop, after_remove, next_of}
use Rattle.book.specs.Cluster.{name_cmp}
use Rattle.book.specs.Expiry.{any_expired}
use Rattle.book.specs.Step as book_step
use Rattle.book.specs.Step.{is_old, is_placed}
use Rattle.book.specs.declared.refusal.Refusal.{Refusal}
use Rattle.book.specs.declared.step.ClusterStep.{ClusterStep}
use Rattle.book.specs.declared.step.ClusterStep.TheVariants as cluster
use Rattle.desk.specs.declared.step.Reply.{Reply}
use Rattle.desk.specs.declared.step.Reply.TheVariants as replies
use Rattle.desk.specs.declared.step.Step.{Step}
use Rattle.desk.specs.declared.step.Step.TheVariants.{Event, Pop, Assume, BindDone, Forget, Fail, Tick, Count}
use Rattle.desk.specs.Machine as machine
use Rattle.desk.proofs.Deciding.{first_three}
use Rattle.desk.proofs.Pods.{pod_at, turned, same_of, pod_added, pod_expired, pod_failed, pod_forgotten, pod_moved, pod_popped, pod_removed, pod_ticked}
use Rattle.live_desk.specs.declared.offered.Offered.{Offered}
use Rattle.rules.specs.RuleSet.{RuleSet}
use Rattle.queued.specs.declared.state.Failure.TheVariants.{Unschedulable, Again}
use Rattle.book.specs.declared.limits.Limits.{Limits}
use Rattle.choose.specs.declared.decision.Decision.{Decision}
use Rattle.choose.specs.declared.decision.Decision.TheVariants as decisions
use Rattle.cycle.specs.declared.one_cycle.Cycled.{Cycled}
use Rattle.cycle.specs.declared.one_cycle.Cycled.TheVariants as cycled
use Rattle.cycle.specs.CycleAlone.{AfterAssumeAlone, AfterPopAlone, EndsAlone, IsCycleAlone}
use Rattle.ledger.specs.declared.event.Answer.{Answer}
use Rattle.ledger.specs.declared.event.Answer.TheVariants.{Told, Old, Full, Granted, Shut, NotWaiting, Refused, Read}
use Rattle.ledger.specs.declared.event.Event.{Event as LedgerEvent}
use Rattle.ledger.specs.State.{State, is_open}
use Rattle.live_desk.specs.declared.live_desk.Taken.{Taken}
use Rattle.live_desk.specs.declared.live_desk.Taken.TheVariants.{Answers, LeftOut}
use Rattle.live_desk.specs.declared.turn.Turn.{Turn}
use Rattle.live_desk.specs.SamePod.{is_same_pod}
use Rattle.live_desk.specs.Telling.{IsPending, IsTaken, is_newest, names_of, offered_if, pending, put_aside, takes, with_ledger}
use Rattle.live_desk.specs.Turns.{IsTurn, IsTurnIf, Leads, asked_by, with_desk}
use Rattle.live_desk.proofs.Kept as kept
use Rattle.live_desk.proofs.OnlyDesk.{an_offer}
use Rattle.live_desk.proofs.SameRows.{same_itself}
use Rattle.live_desk.specs.Laws.{AreQueued, NoneIsLost}
use Rattle.live_desk.specs.State.{Live, Offer, given_back_by, has_room, numbered, offer, offer_new, offer_of, offered_by, opening, pod_gone, steps, tells, ticket_of, version_of, with_ticket, with_ticket_of, without}
use Rattle.live_desk.proofs.Kept.{Keeps}

-- ---- a step of the desk

-- a step may take the pod of this uid out of the queue, or put it there
abbrev pub is_about : Step → Name → Bool
is_about (Event (PodPending version pod)) uid = true
is_about (Event (PodBound version u node request)) uid = bytes_eq u uid
is_about (Event (PodGone version u)) uid = bytes_eq u uid
is_about _ uid = false

module _ (d : machine.State) (uid : Name) (pod : Pod) (there : pod_at d.queue uid ≡ Some pod) where
  both : (part : ClusterStep) (q : QueueState) → pod_at q uid ≡ Some pod → pod_at (machine.both d part q).state.queue uid ≡ Some pod
  both part q new = by (book_step.refusal d.cluster part)
    where
      by : (r : Option Refusal) → pod_at (machine.unless r d (record { state = record d { cluster = book_step.effect d.cluster part; queue = q }; reply = machine.told d.cluster part })).state.queue uid ≡ Some pod
      by None = new
      by (Some why) = there

  unless : (r : Option Refusal) (next : machine.State) (reply : Reply) → pod_at next.queue uid ≡ Some pod → pod_at (machine.unless r d (record { state = next; reply = reply })).state.queue uid ≡ Some pod
  unless None next reply new = new
  unless (Some why) next reply new = there

  removed : (u : Name) → bytes_eq u uid ≡ false → pod_at (after_remove d.queue u) uid ≡ Some pod
  removed u other = pod_removed d.queue uid u ∙ ap (λ b. cond b None (pod_at d.queue uid)) other ∙ there

  moved_if : (b : Bool) (q : QueueState) → pod_at q uid ≡ Some pod → pod_at (if b then machine.moved d q else q) uid ≡ Some pod
  moved_if true q is = pod_moved q uid d.clock ∙ is
  moved_if false q is = is

  tick_moved : (b : Bool) (q : QueueState) (now : Moment) → pod_at q uid ≡ Some pod → pod_at (if b then after_move q now else q) uid ≡ Some pod
  tick_moved true q now is = pod_moved q uid now ∙ is
  tick_moved false q now is = is

  pub step_kept : (e : Step) → is_about e uid ≡ false → pod_at (machine.after d 0 e).queue uid ≡ Some pod
  unfolding after_pop
  step_kept (Event (NodeSet version node)) other = both (machine.of_node d (NodeSet version node)) (machine.moved d d.queue) (pod_moved d.queue uid d.clock ∙ there)
  step_kept (Event (NodeGone version name)) other = both (machine.of_node d (NodeGone version name)) d.queue there
  step_kept (Event (PodPending version p)) other = cc
  step_kept (Event (PodBound version u node request)) other = both (machine.of_pod d u (PodBound version u node request)) (after_remove d.queue u) (removed u other)
  step_kept (Event (PodGone version u)) other =
      both (machine.of_pod d u (PodGone version u)) (machine.moved_if_placed d u (after_remove d.queue u)) (moved_if (is_placed d.cluster u) (after_remove d.queue u) (removed u other))
  step_kept Pop other = pod_popped d.queue uid (machine.pass_number 0) (next_of d.queue) refl ∙ there
  step_kept (Assume u node) other = both (cluster.Assume u node (machine.entry_at d 0 u)) d.queue there
  step_kept (BindDone u ticket) other = both (cluster.BindDone u ticket d.clock (has_entry d.queue u)) d.queue there
  step_kept (Forget u ticket) other =
      both (cluster.Forget u ticket (has_entry d.queue u)) (machine.moved d (after_forget d.queue u d.clock))
      (pod_moved (after_forget d.queue u d.clock) uid d.clock ∙ pod_forgotten d.queue uid u d.clock ∙ there)
  step_kept (Fail u how) other = unless (machine.refusal_to_fail d 0 u) (record d { queue = after_fail d.queue u (machine.pass_number 0) how d.clock }) replies.Done (pod_failed d.queue uid u (machine.pass_number 0) how d.clock ∙ there)
  step_kept (Tick now) other =
      unless (machine.refusal_to_tick d now) (machine.ticked_to d now) replies.Done
      (pod_ticked (machine.moved_if_expired d now (machine.after_expiry d.queue d.cluster.places now)) uid now
      ∙ tick_moved (any_expired d.cluster.places now) (machine.after_expiry d.queue d.cluster.places now) now (pod_expired d.queue uid d.cluster.places now ∙ there))
  step_kept Count other = there

-- ---- the table of what was offered

module _ (m : FinMap name_cmp Offered) (k uid : Name) where
  -- another than the one that was taken out
  left : (it : Offered) → get (remove m k) uid ≡ Some it → (bytes_eq k uid ≡ false) × (get m uid ≡ Some it)
  left it is = by (bytes_eq k uid) refl (sym (get-remove nat_list_cmp_total m k uid ∙ ap (λ b. cond b None (get m uid)) (turned uid k)) ∙ is)
    where
      by : (b : Bool) → bytes_eq k uid ≡ b → cond b None (get m uid) ≡ Some it → (bytes_eq k uid ≡ false) × (get m uid ≡ Some it)
      by true same e = cc
      by false other e = (other, e)

  -- the one that was put in, or another
  either : (v it : Offered) → get (insert m k v) uid ≡ Some it → ((bytes_eq k uid ≡ true) × (v ≡ it)) ⊎ ((bytes_eq k uid ≡ false) × (get m uid ≡ Some it))
  either v it is = by (bytes_eq k uid) refl (sym (get-insert nat_list_cmp_total m k v uid ∙ ap (λ b. cond b (Some v) (get m uid)) (turned uid k)) ∙ is)
    where
      by : (b : Bool) → bytes_eq k uid ≡ b → cond b (Some v) (get m uid) ≡ Some it → ((bytes_eq k uid ≡ true) × (v ≡ it)) ⊎ ((bytes_eq k uid ≡ false) × (get m uid ≡ Some it))
      by true same e = inl (same, ap (λ o. unwrap_or o it) e)
      by false other e = inr (other, e)

-- ---- what the desk is told

-- a step that is about none of them
by_step : (s : Live) (e : Step) → ((uid : Name) (it : Offered) → get s.offered uid ≡ Some it → is_about e uid ≡ false) → AreQueued s → AreQueued (steps s e)
by_step s e other queued uid it is = step_kept s.desk uid it.pod (queued uid it is) e (other uid it is)

-- a pod is none of them any more, and a step is about it
by_gone : (s : Live) (u : Name) (event : Version → Watched) → ((version : Version) (uid : Name) → bytes_eq u uid ≡ false → is_about (Event (event version)) uid ≡ false)
    → AreQueued s → AreQueued (tells (without s u) event)
by_gone s u event about queued uid it is =
    let still = left s.offered u uid it is in
    step_kept s.desk uid it.pod (queued uid it still.1) (Event (event (version_of (numbered (without s u))))) (about (version_of (numbered (without s u))) uid still.0)

-- what names the desk's choice changes no row
ticketed : (s : Live) (u : Name) (ticket : Option Ticket) (o : Option Offered) → get s.offered u ≡ o → AreQueued s → AreQueued (with_ticket_of s u ticket o)
ticketed s u ticket None is queued uid other there = queued uid other there
ticketed s u ticket (Some it) is queued uid other there =
    elim (either s.offered u uid (record it { ticket = ticket }) other there) [
      | inl same ↦ subst (λ k. option_map (λ (entry : Entry). entry.pod) (entry_of s.desk.queue k) ≡ Some other.pod) (same_of u uid same.0)
          (queued u it is ∙ ap (λ (o : Offered). Some o.pod) same.1)
      | inr apart ↦ queued uid other apart.1
    ]

given_back_any : (s : Live) (u : Name) (ticket : Option Ticket) → AreQueued s → AreQueued (given_back_by s u ticket)
given_back_any s u None queued = by_gone s u (λ version. PodGone version u) (λ version uid other. other) queued
given_back_any s u (Some ticket) queued = by_step (with_ticket s u None) (Forget u ticket) (λ uid it is. refl) (ticketed s u None (get s.offered u) refl queued)

-- what keeps them
abbrev KeepsQueued : Live → Live → Type 0
KeepsQueued s s' = AreQueued s → AreQueued s'

keeps : Keeps KeepsQueued
keeps = record {
  nothing = λ s queued. queued;
  later = λ a b c first second queued. second (first queued);
  set_node = λ s node queued. by_step (numbered s) (Event (NodeSet (version_of (numbered s)) node)) (λ uid it is. refl) queued;
  drop_node = λ s name queued. by_step (numbered s) (Event (NodeGone (version_of (numbered s)) name)) (λ uid it is. refl) queued;
  drop_pod = λ s u queued. by_gone s u (λ version. PodGone version u) (λ version uid other. other) queued;
  bind_pod = λ s u node request queued. by_gone s u (λ version. PodBound version u node request) (λ version uid other. other) queued;
  give_back = λ s u queued. given_back_any s u (ticket_of (get s.offered u)) queued;
}

-- ---- pods to place

either_false : (a b : Bool) → (a || b) ≡ false → b ≡ false
either_false true b is = cc
either_false false b is = is

module _ (s : Live) (pod : Pod) where
  abbrev part : ClusterStep
  part = machine.of_pod s.desk pod.uid (PodPending (version_of (numbered s)) pod)

  abbrev came : Option Refusal → machine.Outcome
  came r = machine.unless r s.desk (record { state = record s.desk { cluster = book_step.effect s.desk.cluster part; queue = after_add s.desk.queue pod s.desk.clock }; reply = machine.told s.desk.cluster part })

  -- by what the book says of it
  abbrev offered_by_book : Option Refusal → Offer
  offered_by_book r = offered_by (came r).reply (record (numbered s) { desk = machine.counted (came r).state 0 }) pod

  added : (r : Option Refusal) → book_step.refusal s.desk.cluster part ≡ r → AreQueued s → AreQueued (offered_by_book r).state
  added (Some why) is queued uid it there = queued uid it there
  added None is queued uid it there =
      let tests = first_three (is_old s.desk.cluster (version_of (numbered s))) (is_placed s.desk.cluster pod.uid || has_entry s.desk.queue pod.uid) (is_full_queue s.desk.queue) _ _ _ [] is in
      let now = pod_added s.desk.queue uid pod s.desk.clock (either_false (is_placed s.desk.cluster pod.uid) (has_entry s.desk.queue pod.uid) tests.1) tests.2 in
      elim (either s.offered pod.uid uid (record { pod = pod; ticket = None }) it there) [
        | inl same ↦ now ∙ ap (λ b. cond b (Some pod) (pod_at s.desk.queue uid)) same.0 ∙ ap (λ (o : Offered). Some o.pod) same.1
        | inr apart ↦ now ∙ ap (λ b. cond b (Some pod) (pod_at s.desk.queue uid)) apart.0 ∙ queued uid it apart.1
      ]

  -- and then it is there
  put : (r : Option Refusal) → (offered_by_book r).is_there ≡ true → get (offered_by_book r).state.offered pod.uid ≡ Some (record { pod = pod; ticket = None })
  put (Some why) is = cc
  put None is = get-insert nat_list_cmp_total s.offered pod.uid (record { pod = pod; ticket = None }) pod.uid
      ∙ ap (λ b. cond b (Some (record { pod = pod; ticket = None })) (get s.offered pod.uid)) (turned pod.uid pod.uid ∙ (bytes_decides pod.uid pod.uid).1 refl)

  room_or : (b : Bool) → AreQueued s → AreQueued (if b then offered_by_book (book_step.refusal s.desk.cluster part) else record { is_there = false; state = s }).state
  room_or true queued = added (book_step.refusal s.desk.cluster part) refl queued
  room_or false queued = queued

  room_put : (b : Bool) → (if b then offered_by_book (book_step.refusal s.desk.cluster part) else record { is_there = false; state = s }).is_there ≡ true
      → get (if b then offered_by_book (book_step.refusal s.desk.cluster part) else record { is_there = false; state = s }).state.offered pod.uid ≡ Some (record { pod = pod; ticket = None })
  room_put true is = put (book_step.refusal s.desk.cluster part) is
  room_put false is = cc

new_queued : (s : Live) (pod : Pod) → AreQueued s → AreQueued (offer_new s pod).state
new_queued s pod queued = room_or s pod (has_room s) queued

new_put : (s : Live) (pod : Pod) → (offer_new s pod).is_there ≡ true → get (offer_new s pod).state.offered pod.uid ≡ Some (record { pod = pod; ticket = None })
new_put s pod is = room_put s pod (has_room s) is

changed : (b : Bool) (s : Live) (pod : Pod) → AreQueued s → AreQueued (if b then record { is_there = true; state = s } else offer_new (pod_gone s pod.uid) pod).state
changed true s pod queued = queued
changed false s pod queued = new_queued (pod_gone s pod.uid) pod (keeps.drop_pod s pod.uid queued)

offer_queued : (s : Live) (pod : Pod) (o : Option Offered) → AreQueued s → AreQueued (offer_of s pod o).state
offer_queued s pod None queued = new_queued s pod queued
offer_queued s pod (Some before) queued = changed (is_same_pod before.pod pod) s pod queued

-- ---- what was offered is there by a row that tells the same

abbrev IsThere : Live → Pod → Type 0
IsThere s pod = (it : Offered) × (get s.offered pod.uid ≡ Some it) × (is_same_pod it.pod pod ≡ true)

changed_there : (b : Bool) (s : Live) (pod : Pod) (before : Offered) → get s.offered pod.uid ≡ Some before → is_same_pod before.pod pod ≡ b
    → (if b then record { is_there = true; state = s } else offer_new (pod_gone s pod.uid) pod).is_there ≡ true
    → IsThere (if b then record { is_there = true; state = s } else offer_new (pod_gone s pod.uid) pod).state pod
changed_there true s pod before there same is = (before, there, same)
changed_there false s pod before there same is = (record { pod = pod; ticket = None }, new_put (pod_gone s pod.uid) pod is, same_itself pod)

offer_there : (s : Live) (pod : Pod) (o : Option Offered) → get s.offered pod.uid ≡ o → (offer_of s pod o).is_there ≡ true → IsThere (offer_of s pod o).state pod
offer_there s pod None there is = (record { pod = pod; ticket = None }, new_put s pod is, same_itself pod)
offer_there s pod (Some before) there is = changed_there (is_same_pod before.pod pod) s pod before there refl is

-- ---- what is told

pub taken_queued : (s s' : Live) (event : LedgerEvent) (answer : Answer) → AreQueued s → IsTaken s event answer s' → AreQueued s'
taken_queued s s' event answer queued taken =
    subst AreQueued (sym taken.1) (kept.tell_if KeepsQueued keeps (takes answer) (with_ledger s s'.ledger) event (names_of s.ledger event) queued)

offered_queued : (newest : Bool) (answer : Answer) (s : Live) (pod : Pod) → AreQueued s → AreQueued (offered_if newest answer s pod).state
offered_queued true answer s pod queued = offer_queued s pod (get s.offered pod.uid) queued
offered_queued false answer s pod queued = queued

pub pending_queued : (s s' : Live) (version : Version) (pod : Pod) (taken : Taken) → AreQueued s → IsPending s version pod taken s' → AreQueued s'
pending_queued s s' version pod taken queued is =
    subst AreQueued (sym (ap (λ p. p.state) is.is)) (offered_queued (is_newest version pod.request (get is.known.pods pod.uid)) is.answer (with_ledger s is.known) pod queued)

pub aside_queued : (s : Live) (uid : Name) → AreQueued s → AreQueued (put_aside s uid).state
aside_queued s uid queued = kept.an_aside KeepsQueued keeps s uid queued

pub ticked_queued : (s : Live) (now : Moment) → AreQueued s → AreQueued (steps s (Tick now))
ticked_queued s now queued = by_step s (Tick now) (λ uid it is. refl) queued

pub opening_queued : (limits : Limits) (known : ℕ) → AreQueued (opening limits known)
opening_queued limits known uid it there = none (sym (get-empty name_cmp uid) ∙ there)
  where
    none : None ≡ Some it → option_map (λ (entry : Entry). entry.pod) (entry_of (opening limits known).desk.queue uid) ≡ Some it.pod
    none e = cc

there_if : (newest : Bool) (a answer : Answer) (s s' : Live) (pod : Pod) → newest ≡ true → pending (Answers answer) s' ≡ offered_if newest a s pod → IsThere s' pod
there_if false a answer s s' pod so is = cc
there_if true a answer s s' pod so is =
    subst (λ x. IsThere x pod) (sym (ap (λ p. p.state) is))
    (offer_there s pod (get s.offered pod.uid) refl (answered (offer s pod).is_there (ap (λ p. p.taken) is)))
  where
    answered : (b : Bool) → Answers answer ≡ (if b then Answers a else LeftOut) → b ≡ true
    answered true e = refl
    answered false e = cc

pub offered_there : (s s' : Live) (version : Version) (pod : Pod) (answer : Answer) → IsPending s version pod (Answers answer) s' → is_newest version pod.request (get s'.ledger.pods pod.uid) ≡ true → IsThere s' pod
offered_there s s' version pod answer is newest =
    let kept_ledger : s'.ledger ≡ is.known = ap (λ p. p.state.ledger) is.is ∙ same (is_newest version pod.request (get is.known.pods pod.uid)) in
    there_if (is_newest version pod.request (get is.known.pods pod.uid)) is.answer answer (with_ledger s is.known) s' pod
    (ap (λ (l : State). is_newest version pod.request (get l.pods pod.uid)) (sym kept_ledger) ∙ newest) is.is
  where
    same : (b : Bool) → (offered_if b is.answer (with_ledger s is.known) pod).state.ledger ≡ is.known
    same true = (an_offer (with_ledger s is.known) pod).ledger
    same false = refl

-- ---- a cycle

-- the pod of an entry stays through a cycle
module _ (uid : Name) (pod : Pod) where
  abbrev Has : machine.State → Type 0
  Has d = pod_at d.queue uid ≡ Some pod

  after_assume_has : (d d' : machine.State) (u node : Name) (total : ℕ) (r : Result Ticket Refusal) (came : Cycled) → AfterAssumeAlone d u node total r came d' → Has d → Has d'
  after_assume_has d d' u node total (Ok ticket) came a there = subst Has (sym a.1) there
  after_assume_has d d' u node total (Err why) came a there = subst Has (sym a.1) (step_kept d uid pod there (Fail u Again) refl)

  ends_has : (d d' : machine.State) (u : Name) (decision : Decision) (came : Cycled) → EndsAlone d u decision came d' → Has d → Has d'
  ends_has d d' u (decisions.Node node total) came a there =
      after_assume_has (machine.after d 0 (Assume u node)) d' u node total a.answer came a.ends (step_kept d uid pod there (Assume u node) refl)
  ends_has d d' u (decisions.Unschedulable counts) came a there = subst Has (sym a.1) (step_kept d uid pod there (Fail u Unschedulable) refl)
  ends_has d d' u (decisions.PluginError place node cause) came a there = subst Has (sym a.1) (step_kept d uid pod there (Fail u Again) refl)

  after_pop_has : (rules : RuleSet) (d d' : machine.State) (answer : Option Pod) (came : Cycled) → AfterPopAlone rules d answer came d' → Has d → Has d'
  after_pop_has rules d d' (Some popped) came a there = ends_has d d' popped.uid a.decision came a.ends there
  after_pop_has rules d d' None came a there = subst Has (sym a.1) there

  cycle_has : (rules : RuleSet) (d d' : machine.State) (came : Cycled) → IsCycleAlone rules d came d' → Has d → Has d'
  cycle_has rules d d' came cycle there =
      after_pop_has rules (machine.after d 0 Pop) d' (machine.first_pod d.queue) came cycle.is (step_kept d uid pod there Pop refl)

asked_queued : (answer : Answer) (s : Live) (uid node : Name) (total : ℕ) (ticket : Ticket) → AreQueued s → AreQueued (asked_by answer s uid node total ticket).state
asked_queued (Granted bind) s uid node total ticket queued = ticketed s uid (Some ticket) (get s.offered uid) refl queued
asked_queued Told s uid node total ticket queued = by_step s (Forget uid ticket) (λ u it is. refl) queued
asked_queued Old s uid node total ticket queued = by_step s (Forget uid ticket) (λ u it is. refl) queued
asked_queued Full s uid node total ticket queued = by_step s (Forget uid ticket) (λ u it is. refl) queued
asked_queued Shut s uid node total ticket queued = by_step s (Forget uid ticket) (λ u it is. refl) queued
asked_queued NotWaiting s uid node total ticket queued = by_step s (Forget uid ticket) (λ u it is. refl) queued
asked_queued (Refused why) s uid node total ticket queued = by_step s (Forget uid ticket) (λ u it is. refl) queued
asked_queued Read s uid node total ticket queued = by_step s (Forget uid ticket) (λ u it is. refl) queued

leads_queued : (s s' : Live) (came : Cycled) (turn : Turn) → AreQueued s → Leads s came turn s' → AreQueued s'
leads_queued s s' (cycled.Assumed uid node total ticket) turn queued asked =
    subst AreQueued (sym (ap (λ p. p.state) asked.is)) (asked_queued asked.answer (with_ledger s asked.known) uid node total ticket queued)
leads_queued s s' cycled.Idle turn queued leads = subst AreQueued (sym leads.1) queued
leads_queued s s' (cycled.Unschedulable uid counts) turn queued leads = subst AreQueued (sym leads.1) queued
leads_queued s s' (cycled.Errs uid place node cause) turn queued leads = subst AreQueued (sym leads.1) queued
leads_queued s s' (cycled.Lost uid why) turn queued leads = subst AreQueued (sym leads.1) queued

turn_queued_if : (may : Bool) (rules : RuleSet) (s s' : Live) (turn : Turn) → AreQueued s → IsTurnIf may rules s turn s' → AreQueued s'
turn_queued_if false rules s s' turn queued same = subst AreQueued (sym same.1) queued
turn_queued_if true rules s s' turn queued decided =
    leads_queued (with_desk s decided.desk) s' decided.came turn
    (λ uid it there. cycle_has uid it.pod rules s.desk decided.desk decided.came decided.cycled (queued uid it there)) decided.leads

pub turn_queued : (rules : RuleSet) (s s' : Live) (turn : Turn) → AreQueued s → IsTurn rules s turn s' → AreQueued s'
turn_queued rules s s' turn queued is = turn_queued_if (is_open s.ledger) rules s s' turn queued is

-- ---- all of it

pub none_is_lost : (rules : RuleSet) → NoneIsLost rules
none_is_lost rules = record {
  opening = opening_queued;
  taken = taken_queued;
  pending = pending_queued;
  aside = aside_queued;
  ticked = ticked_queued;
  turned = turn_queued rules;
  offered = offered_there;
}
