-- What one answered call does to what is known of one name.
use Rattle.std.proofs.Common.{◌≡◌, ℕ, ◌+◌, ◌≤◌, Bool, true, false, cond, not, ◌||◌, [], ◌∷◌, if◌then◌else◌, nat_lt, Option, None, Some, is_some, unwrap_or, refl, sym, ap, subst, ◌∙◌, arith}
use Rattle.std.specs.Prelude.{⊤}
use Rattle.std.proofs.lemmas.Bool.{leb-true, le-leb, lt-leb}
use Rattle.std.proofs.lemmas.Bool.Decides.{nat_tests}
use Rattle.std.specs.Option.{option_or, option_map}
use Rattle.std.specs.Str.{bytes_eq}
use Rattle.std.specs.Cmp.Lexicographic.{nat_list_cmp_total}
use Rattle.std.specs.FinMap as fin
use Rattle.std.specs.FinMap.{FinMap}
use Rattle.quant.specs.declared.event.Event.TheVariants.{NodeSet, NodeGone, PodPending, PodBound, PodGone}
use Rattle.quant.specs.declared.amount.Request.{Request}
use Rattle.quant.specs.declared.name.Name.{Name}
use Rattle.quant.specs.declared.objects.Node.{Node}
use Rattle.quant.specs.declared.objects.Pod.{Pod}
use Rattle.quant.specs.declared.version.Ticket.{Ticket}
use Rattle.quant.specs.declared.version.Version.{Version}
use Rattle.queued.specs.declared.state.PassNumber.{PassNumber}
use Rattle.queued.specs.Entry.{Entry as QueueEntry, is_in_flight_for}
use Rattle.queue.specs.Order.{Item}
use Rattle.queue.specs.Queue.{QueueState, entry_of, has_entry, is_full_queue, next_of, with_popped, after_add, after_pop, after_fail, after_forget, after_move, after_remove}
use Rattle.book.specs.declared.place.Place.{Place}
use Rattle.book.specs.declared.place.Status.{Status}
use Rattle.book.specs.declared.place.Status.TheVariants.{Assumed, Bound}
use Rattle.book.specs.declared.refusal.Refusal.{Refusal}
use Rattle.book.specs.declared.refusal.Refusal.TheVariants as refusals
use Rattle.queued.specs.declared.state.Failure.{Failure}
use Rattle.quant.specs.declared.amount.Moment.{Moment}
use Rattle.book.specs.declared.entry.Entry.{Entry}
use Rattle.book.specs.declared.entry.Entry.TheVariants.{Missing, Elsewhere, Held}
use Rattle.book.specs.declared.step.ClusterStep.{ClusterStep}
use Rattle.book.specs.declared.step.ClusterStep.TheVariants as cluster
use Rattle.book.specs.Cluster.{name_cmp}
use Rattle.book.specs.Tables.{is_full_for}
use Rattle.book.specs.Expiry.{is_overdue, has_expired, any_expired}
use Rattle.book.specs.declared.limits.TheConstants.{EXPIRY}
use Rattle.book.specs.Step as book_step
use Rattle.book.specs.Step.{is_placed, is_old, is_gone, is_bound, is_finished, has_ticket, stands, finished_status, with_finished, with_choice, next_ticket, first_of}
use Rattle.desk.specs.declared.step.Step.{Step}
use Rattle.desk.specs.declared.step.Step.TheVariants.{Event, Pop, Assume, BindDone, Forget, Fail, Tick, Count}
use Rattle.desk.specs.declared.step.Reply.{Reply}
use Rattle.desk.specs.declared.step.Reply.TheVariants as replies
use Rattle.desk.specs.declared.step.Reply.TheVariants.{Refused}
use Rattle.desk.specs.Machine.{State, Outcome, step, both, unless, told, of_node, of_pod, moved, moved_if_placed, entry_at, entry_for, pass_number, popped, refusal_to_fail, refusal_to_tick, after_expiry, moved_if_expired, ticked_to}
use Rattle.desk.specs.History.{is_accepted, if_named, row_in, pending_in, finish_in, clock_in, put_in, Put}
use Rattle.desk.specs.History.Put.{Chosen, Told, Nowhere}
use Rattle.desk.proofs.Pods.{pod_of, pod_at, turned, same_of, pod_moved, pod_ticked, pod_expired, pod_failed, pod_forgotten, pod_removed, pod_added, pod_popped}
use Rattle.desk.proofs.Deciding.{first_three, or_false, not_false}
use Rattle.desk.proofs.Expiring.{get_unexpired}

-- where a place puts its pod
abbrev pub put_by : Name → Request → Status → Put
put_by node request (Assumed ticket finished) = Chosen node ticket
put_by node request Bound = Told node request

-- when a place's bind was reported done, if it was
abbrev pub mark_by : Status → Option Moment
mark_by (Assumed ticket finished) = finished
mark_by Bound = None

-- whether a pod that was put so last, and whose bind was reported done then, has no place at this
-- moment
abbrev pub is_nowhere : Put → Option Moment → Moment → Bool
is_nowhere (Chosen node ticket) mark clock = is_overdue clock mark
is_nowhere (Told node request) mark clock = false
is_nowhere Nowhere mark clock = true

-- a place, or none, as it is at this moment where the pod was put so last and its bind was reported
-- done then
abbrev pub IsPut : Option Place → Put → Option Moment → Moment → Type 0
IsPut None put mark clock = is_nowhere put mark clock ≡ true
IsPut (Some place) put mark clock = (put ≡ put_by place.node place.request place.status) × (mark ≡ mark_by place.status) × (has_expired clock place.status ≡ false)

-- a pod that waits is the known one
abbrev pub Agrees : Option Pod → Option Pod → Type 0
Agrees None known = ⊤
Agrees (Some pod) known = known ≡ Some pod

-- an assumed place has the request of the known pod
abbrev pub AskedBy : Status → Request → Option Pod → Type 0
AskedBy (Assumed ticket finished) request known = (pod : Pod) × (known ≡ Some pod) × (request ≡ pod.request)
AskedBy Bound request known = ⊤

abbrev pub Asked : Option Place → Option Pod → Type 0
Asked None known = ⊤
Asked (Some place) known = AskedBy place.status place.request known

-- what waits and what is placed is of the known pod
pub record Known (waits : Option Pod) (place : Option Place) (known : Option Pod) : Type 0 where
  pub entry : Agrees waits known
  pub asked : Asked place known

-- what an answered step says, where it is accepted
abbrev pub if_accepted : {X : Type 0} → Reply → Option X → Option X
if_accepted r o = if is_accepted r then o else None

-- what is so of one name after a step that was answered so
pub record OneOf (s : State) (q : Name) (e : Step) (new : State) (r : Reply) : Type 0 where
  pub node : fin.get new.cluster.nodes q ≡ unwrap_or (if_accepted r (row_in q e)) (fin.get s.cluster.nodes q)
  pub place : (put : Put) (mark : Option Moment) → IsPut (fin.get s.cluster.places q) put mark s.clock
      → IsPut (fin.get new.cluster.places q) (unwrap_or (put_in q e r) put) (unwrap_or (if_accepted r (finish_in q s.clock e)) mark) new.clock
  pub clock : new.clock ≡ unwrap_or (if_accepted r (clock_in e)) s.clock
  pub known : (known : Option Pod) → Known (pod_at s.queue q) (fin.get s.cluster.places q) known → Known (pod_at new.queue q) (fin.get new.cluster.places q) (option_or (if_accepted r (pending_in q e)) known)

-- ---- maps

module _ {X Y : Type 0} (f : Option X → Y) (m : FinMap name_cmp X) (k q : Name) where
  -- what is read after a value is put
  pub read_insert : (x : X) → f (fin.get (fin.insert m k x) q) ≡ cond (bytes_eq k q) (f (Some x)) (f (fin.get m q))
  read_insert x =
      ap f (fin.get-insert nat_list_cmp_total m k x q ∙ ap (λ b. cond b (Some x) (fin.get m q)) (turned q k))
      ∙ elim (bytes_eq k q) as (λ b. f (cond b (Some x) (fin.get m q)) ≡ cond b (f (Some x)) (f (fin.get m q))) [ true ↦ refl | false ↦ refl ]

  -- and after one is taken out
  pub read_remove : f (fin.get (fin.remove m k) q) ≡ cond (bytes_eq k q) (f None) (f (fin.get m q))
  read_remove =
      ap f (fin.get-remove nat_list_cmp_total m k q ∙ ap (λ b. cond b None (fin.get m q)) (turned q k))
      ∙ elim (bytes_eq k q) as (λ b. f (cond b None (fin.get m q)) ≡ cond b (f None) (f (fin.get m q))) [ true ↦ refl | false ↦ refl ]

-- what a name's own step says of it, in place of what was known
said_here : {Y : Type 0} (k q : Name) (y d : Y) → cond (bytes_eq k q) y d ≡ unwrap_or (if_named k q y) d
said_here k q y d = elim (bytes_eq k q) as (λ b. cond b y d ≡ unwrap_or (if b then Some y else None) d) [ true ↦ refl | false ↦ refl ]

-- ---- refused steps

put_refused : (q : Name) (e : Step) (why : Refusal) → put_in q e (Refused why) ≡ None
put_refused q (Event (NodeSet version node)) why = refl
put_refused q (Event (NodeGone version name)) why = refl
put_refused q (Event (PodPending version pod)) why = refl
put_refused q (Event (PodBound version uid node request)) why = refl
put_refused q (Event (PodGone version uid)) why = refl
put_refused q Pop why = refl
put_refused q (Assume uid node) why = refl
put_refused q (BindDone uid ticket) why = refl
put_refused q (Forget uid ticket) why = refl
put_refused q (Fail uid how) why = refl
put_refused q (Tick now) why = refl
put_refused q Count why = refl

-- a refused step changes nothing, and says nothing
refused_of : (s : State) (q : Name) (e : Step) (why : Refusal) → OneOf s q e s (Refused why)
refused_of s q e why = record {
  node = refl;
  place = λ put mark h. subst (λ o. IsPut (fin.get s.cluster.places q) (unwrap_or o put) mark s.clock) (sym (put_refused q e why)) h;
  clock = refl;
  known = λ known h. h;
}

-- a step that is refused or done
unless_of : (s : State) (q : Name) (e : Step) (o : Option Refusal) (done : Outcome) → (o ≡ None → OneOf s q e done.state done.reply) → OneOf s q e (unless o s done).state (unless o s done).reply
unless_of s q e None done h = h refl
unless_of s q e (Some why) done h = refused_of s q e why

-- what the book and the queue make of a step
abbrev pub done_by : State → ClusterStep → QueueState → Outcome
done_by s part queue = record { state = record s { cluster = book_step.effect s.cluster part; queue = queue }; reply = told s.cluster part }

both_of : (s : State) (q : Name) (e : Step) (part : ClusterStep) (queue : QueueState)
    → (book_step.refusal s.cluster part ≡ None → OneOf s q e (done_by s part queue).state (done_by s part queue).reply)
    → OneOf s q e (both s part queue).state (both s part queue).reply
both_of s q e part queue h = unless_of s q e (book_step.refusal s.cluster part) (done_by s part queue) h

-- ---- what stays known

-- the same pod waits, and the place is the same
same_known : (waits new : Option Pod) (place : Option Place) (known : Option Pod) → new ≡ waits → Known waits place known → Known new place known
same_known waits new place known e h = subst (λ o. Known o place known) (sym e) h

-- a name's entry and place, each changed where the name is this one
at_name : (b : Bool) (waits here : Option Pod) (place there : Option Place) (new : Option Pod) (now : Option Place) (says known : Option Pod)
    → new ≡ cond b here waits → now ≡ cond b there place → (b ≡ true → Known here there (option_or says known)) → (b ≡ false → says ≡ None)
    → Known waits place known → Known new now (option_or says known)
at_name true waits here place there new now says known e f own other h = subst (λ o. Known o now (option_or says known)) (sym e) (subst (λ p. Known here p (option_or says known)) (sym f) (own refl))
at_name false waits here place there new now says known e f own other h =
    subst (λ o. Known o now (option_or says known)) (sym e) (subst (λ p. Known waits p (option_or says known)) (sym f) (subst (λ o. Known waits place (option_or o known)) (sym (other refl)) h))

-- nothing at all is known well
nothing_known : (known : Option Pod) → Known None None known
nothing_known known = record { entry = tt; asked = tt }

-- ---- the steps, where they are done

pub absent : {X : Type 0} (o : Option X) → is_some o ≡ false → o ≡ None
absent None h = refl
absent (Some x) h = absurd (cc)

-- one value in both cases
pub same_both : {X : Type 0} (b : Bool) (x : X) → cond b x x ≡ x
same_both true x = refl
same_both false x = refl

-- a place that the cluster told
abbrev pub bound_at : Name → Request → Place
bound_at node request = record { node = node; request = request; status = Bound }

-- a place that was chosen now
abbrev pub chosen_at : State → Name → Request → Place
chosen_at s node request = record { node = node; request = request; status = Assumed (next_ticket s.cluster) None }

-- the same place, with its bind reported done now
abbrev pub finished_at : State → Place → Place
finished_at s place = record { node = place.node; request = place.request; status = finished_status s.clock place.status }

-- that changes its mark alone
same_put : (at : Moment) (node : Name) (request : Request) (status : Status) → put_by node request (finished_status at status) ≡ put_by node request status
same_put at node request (Assumed ticket finished) = refl
same_put at node request Bound = refl

marked : (at : Moment) (status : Status) → is_bound status ≡ false → mark_by (finished_status at status) ≡ Some at
marked at (Assumed ticket finished) h = refl
marked at Bound h = absurd (cc)

-- a bind that is reported done now hasn't expired
fresh : (at : Moment) (status : Status) → has_expired at (finished_status at status) ≡ false
fresh at (Assumed ticket finished) = lt-leb (at.0 + EXPIRY) at.0 (omega arith)
fresh at Bound = refl

-- what has expired has so at any later moment
later_overdue : (clock now : Moment) (mark : Option Moment) → clock.0 ≤ now.0 → is_overdue clock mark ≡ true → is_overdue now mark ≡ true
later_overdue clock now None later h = absurd (cc)
later_overdue clock now (Some at) later h = le-leb (at.0 + EXPIRY) now.0 (omega (arith, later, leb-true (at.0 + EXPIRY) clock.0 h))

later_nowhere : (clock now : Moment) (put : Put) (mark : Option Moment) → clock.0 ≤ now.0 → is_nowhere put mark clock ≡ true → is_nowhere put mark now ≡ true
later_nowhere clock now (Chosen node ticket) mark later h = later_overdue clock now mark later h
later_nowhere clock now (Told node request) mark later h = h
later_nowhere clock now Nowhere mark later h = h

-- a place that expires is one whose pod was put there, and is nowhere then
expired_put : (now : Moment) (node : Name) (request : Request) (status : Status) (put : Put) (mark : Option Moment) → put ≡ put_by node request status → mark ≡ mark_by status → has_expired now status ≡ true → is_nowhere put mark now ≡ true
expired_put now node request (Assumed ticket finished) put mark e f h = (λ i. is_nowhere (e i) (f i) now) ∙ h
expired_put now node request Bound put mark e f h = absurd (cc)

-- at a later moment the place is as it was put, if it hasn't expired
later_put : (clock now : Moment) → clock.0 ≤ now.0 → (o : Option Place) (put : Put) (mark : Option Moment) → IsPut o put mark clock → IsPut (cond (stands (has_expired now) o) None o) put mark now
later_put clock now later None put mark h = later_nowhere clock now put mark later h
later_put clock now later (Some place) put mark h = by (has_expired now place.status) refl
  where
    by : (b : Bool) → has_expired now place.status ≡ b → IsPut (cond b None (Some place)) put mark now
    by true is = expired_put now place.node place.request place.status put mark h.0 h.1 is
    by false is = (h.0, h.1, is)

-- where all that changes is one name's place, which its step puts
put_here : (b : Bool) (place there new : Option Place) (put own : Put) (mark given : Option Moment) (clock : Moment) → new ≡ cond b there place → IsPut there own given clock → IsPut place put mark clock
    → IsPut new (unwrap_or (if b then Some own else None) put) (unwrap_or (if b then Some given else None) mark) clock
put_here true place there new put own mark given clock e is h = subst (λ o. IsPut o own given clock) (sym e) is
put_here false place there new put own mark given clock e is h = subst (λ o. IsPut o put mark clock) (sym e) h

-- the one test of a step that passes
one_test : (b : Bool) (why : Refusal) → first_of ((b, why) ∷ []) ≡ None → b ≡ false
one_test true why h = absurd (cc)
one_test false why h = refl

same_asked : (at : Moment) (status : Status) (request : Request) (known : Option Pod) → AskedBy status request known → AskedBy (finished_status at status) request known
same_asked at (Assumed ticket finished) request known h = h
same_asked at Bound request known h = h

-- what a pass holds is a pod of an entry
held_pod : (pass : PassNumber) (o : Option QueueEntry) (request : Request) → entry_for pass o ≡ Held request → (pod : Pod) × (pod_of o ≡ Some pod) × (request ≡ pod.request)
held_pod pass None request is = absurd (cc)
held_pod pass (Some entry) request is = by (is_in_flight_for pass entry.state) is
  where
    by : (b : Bool) → (if b then Held entry.pod.request else Elsewhere) ≡ Held request → (pod : Pod) × (Some entry.pod ≡ Some pod) × (request ≡ pod.request)
    by true is = (entry.pod, refl, cc)
    by false is = absurd (cc)

module _ (s : State) (q : Name) where
  -- the place of the name
  abbrev place_now : Option Place
  place_now = fin.get s.cluster.places q

  node_set : (version : Version) (node : Node) (pass : ℕ) → OneOf s q (Event (NodeSet version node)) (step s pass (Event (NodeSet version node))).state (step s pass (Event (NodeSet version node))).reply
  node_set version node pass = both_of s q (Event (NodeSet version node)) (of_node s (NodeSet version node)) (moved s s.queue) (λ none. record {
    node = read_insert (λ o. o) s.cluster.nodes node.name q node ∙ said_here node.name q (Some node) (fin.get s.cluster.nodes q);
    place = λ put mark h. h;
    clock = refl;
    known = λ known h. same_known (pod_at s.queue q) (pod_at (moved s s.queue) q) place_now known (pod_moved s.queue q s.clock) h;
  })

  node_gone : (version : Version) (name : Name) (pass : ℕ) → OneOf s q (Event (NodeGone version name)) (step s pass (Event (NodeGone version name))).state (step s pass (Event (NodeGone version name))).reply
  node_gone version name pass = both_of s q (Event (NodeGone version name)) (of_node s (NodeGone version name)) s.queue (λ none. record {
    node = read_remove (λ o. o) s.cluster.nodes name q ∙ said_here name q None (fin.get s.cluster.nodes q);
    place = λ put mark h. h;
    clock = refl;
    known = λ known h. h;
  })

  pod_pending : (version : Version) (pod : Pod) (pass : ℕ) → OneOf s q (Event (PodPending version pod)) (step s pass (Event (PodPending version pod))).state (step s pass (Event (PodPending version pod))).reply
  pod_pending version pod pass = both_of s q (Event (PodPending version pod)) (of_pod s pod.uid (PodPending version pod)) (after_add s.queue pod s.clock) (λ none.
      let passed = first_three (is_old s.cluster version) (is_placed s.cluster pod.uid || has_entry s.queue pod.uid) (is_full_queue s.queue) refusals.Old refusals.Known refusals.Full [] none in
      let apart = or_false (is_placed s.cluster pod.uid) (has_entry s.queue pod.uid) passed.1 in
      let unplaced : fin.get s.cluster.places pod.uid ≡ None = absent (fin.get s.cluster.places pod.uid) apart.0 in
      record {
        node = refl;
        place = λ put mark h. h;
        clock = refl;
        known = λ known h. at_name (bytes_eq pod.uid q) (pod_at s.queue q) (Some pod) place_now place_now (pod_at (after_add s.queue pod s.clock) q) place_now (if_named pod.uid q pod) known
            (pod_added s.queue q pod s.clock apart.1 passed.2) (sym (same_both (bytes_eq pod.uid q) place_now))
            (λ is. record {
              entry = ap (λ b. option_or (if b then Some pod else None) known) is;
              asked = subst (λ p. Asked p (option_or (if_named pod.uid q pod) known)) (sym (ap (fin.get s.cluster.places) (sym (same_of pod.uid q is)) ∙ unplaced)) tt;
            })
            (λ isnt. ap (λ b. if b then Some pod else None) isnt) h;
      })

  pod_bound : (version : Version) (uid node : Name) (request : Request) (pass : ℕ) → OneOf s q (Event (PodBound version uid node request)) (step s pass (Event (PodBound version uid node request))).state (step s pass (Event (PodBound version uid node request))).reply
  pod_bound version uid node request pass = both_of s q (Event (PodBound version uid node request)) (of_pod s uid (PodBound version uid node request)) (after_remove s.queue uid) (λ none. record {
    node = refl;
    place = λ put mark h. put_here (bytes_eq uid q) place_now (Some (bound_at node request)) (fin.get (fin.insert s.cluster.places uid (bound_at node request)) q) put (Told node request) mark None s.clock
        (read_insert (λ o. o) s.cluster.places uid q (bound_at node request)) (refl, refl, refl) h;
    clock = refl;
    known = λ known h. at_name (bytes_eq uid q) (pod_at s.queue q) None place_now (Some (bound_at node request)) (pod_at (after_remove s.queue uid) q) (fin.get (fin.insert s.cluster.places uid (bound_at node request)) q) None known
        (pod_removed s.queue q uid) (read_insert (λ o. o) s.cluster.places uid q (bound_at node request))
        (λ is. record { entry = tt; asked = tt }) (λ isnt. refl) h;
  })

  pod_gone : (version : Version) (uid : Name) (pass : ℕ) → OneOf s q (Event (PodGone version uid)) (step s pass (Event (PodGone version uid))).state (step s pass (Event (PodGone version uid))).reply
  pod_gone version uid pass = both_of s q (Event (PodGone version uid)) (of_pod s uid (PodGone version uid)) (moved_if_placed s uid (after_remove s.queue uid)) (λ none. record {
    node = refl;
    place = λ put mark h. put_here (bytes_eq uid q) place_now None (fin.get (fin.remove s.cluster.places uid) q) put Nowhere mark None s.clock (read_remove (λ o. o) s.cluster.places uid q) refl h;
    clock = refl;
    known = λ known h. at_name (bytes_eq uid q) (pod_at s.queue q) None place_now None (pod_at (moved_if_placed s uid (after_remove s.queue uid)) q) (fin.get (fin.remove s.cluster.places uid) q) None known
        (pods_if (is_placed s.cluster uid) ∙ pod_removed s.queue q uid) (read_remove (λ o. o) s.cluster.places uid q)
        (λ is. nothing_known known) (λ isnt. refl) h;
  })
    where
      pods_if : (b : Bool) → pod_at (if b then moved s (after_remove s.queue uid) else after_remove s.queue uid) q ≡ pod_at (after_remove s.queue uid) q
      pods_if true = pod_moved (after_remove s.queue uid) q s.clock
      pods_if false = refl

  pop : (pass : ℕ) → OneOf s q Pop (step s pass Pop).state (step s pass Pop).reply
  unfolding after_pop
  pop pass = by (next_of s.queue) refl
    where
      by : (o : Option Item) → next_of s.queue ≡ o → OneOf s q Pop (record s { queue = with_popped s.queue (pass_number pass) o }) (popped (option_map (λ item. item.1.pod) o))
      by None is = record { node = refl; place = λ put mark h. h; clock = refl; known = λ known h. h }
      by (Some item) is = record {
        node = refl;
        place = λ put mark h. h;
        clock = refl;
        known = λ known h. same_known (pod_at s.queue q) (pod_at (with_popped s.queue (pass_number pass) (Some item)) q) place_now known (pod_popped s.queue q (pass_number pass) (Some item) is) h;
      }

  -- no choice is taken for an entry that the pass doesn't hold
  pub unheld : (uid node : Name) (entry : Entry) → book_step.is_held entry ≡ false → book_step.refusal s.cluster (cluster.Assume uid node entry) ≡ None → ⊥
  unheld uid node entry isnt none =
      let passed = first_three (is_gone s.cluster uid (book_step.is_queued entry)) (is_placed s.cluster uid) (not (book_step.is_held entry)) refusals.Gone refusals.Placed refusals.NotInFlight
      ((not (book_step.is_there s.cluster node), refusals.NoNode) ∷ (not (book_step.fits_now s.cluster node entry), refusals.NoRoom) ∷ (is_full_for s.cluster.places s.cluster.limits.placed uid || book_step.are_tickets_gone s.cluster, refusals.Full) ∷ []) none in
      let both : true ≡ false = sym (not_false (book_step.is_held entry) passed.2) ∙ isnt in
      absurd (cc)

  -- a choice, where the entry is the pass's
  choose : (uid node : Name) (entry : Entry) → ((request : Request) → entry ≡ Held request → (pod : Pod) × (pod_at s.queue uid ≡ Some pod) × (request ≡ pod.request))
      → book_step.refusal s.cluster (cluster.Assume uid node entry) ≡ None
      → OneOf s q (Assume uid node) (record s { cluster = with_choice s.cluster uid node entry }) (replies.Ticket (next_ticket s.cluster))
  choose uid node Missing held none = absurd (unheld uid node Missing refl none)
  choose uid node Elsewhere held none = absurd (unheld uid node Elsewhere refl none)
  choose uid node (Held request) held none =
      let of = held request refl in
      record {
        node = refl;
        place = λ put mark h. put_here (bytes_eq uid q) place_now (Some (chosen_at s node request)) (fin.get (fin.insert s.cluster.places uid (chosen_at s node request)) q) put (Chosen node (next_ticket s.cluster)) mark None s.clock
            (read_insert (λ o. o) s.cluster.places uid q (chosen_at s node request)) (refl, refl, refl) h;
        clock = refl;
        known = λ known h. at_name (bytes_eq uid q) (pod_at s.queue q) (pod_at s.queue q) place_now (Some (chosen_at s node request)) (pod_at s.queue q) (fin.get (fin.insert s.cluster.places uid (chosen_at s node request)) q) None known
            (sym (same_both (bytes_eq uid q) (pod_at s.queue q))) (read_insert (λ o. o) s.cluster.places uid q (chosen_at s node request))
            (λ is.
            let waits : pod_at s.queue q ≡ Some of.0 = ap (pod_at s.queue) (sym (same_of uid q is)) ∙ of.1 in
            record { entry = h.entry; asked = (of.0, subst (λ o. Agrees o known) waits h.entry, of.2) })
            (λ isnt. refl) h;
      }

  assume : (uid node : Name) (pass : ℕ) → OneOf s q (Assume uid node) (step s pass (Assume uid node)).state (step s pass (Assume uid node)).reply
  assume uid node pass = both_of s q (Assume uid node) (cluster.Assume uid node (entry_at s pass uid)) s.queue (choose uid node (entry_at s pass uid) (held_pod (pass_number pass) (entry_of s.queue uid)))

  -- a bind is reported done of a place, which a ticket names
  finish : (uid : Name) (ticket : Ticket) (o : Option Place) (gone : Bool) → fin.get s.cluster.places uid ≡ o
      → first_of ((gone, refusals.Gone) ∷ (stands is_bound o, refusals.Confirmed) ∷ (not (stands (has_ticket ticket) o), refusals.StaleTicket) ∷ (stands is_finished o, refusals.Confirmed) ∷ []) ≡ None
      → OneOf s q (BindDone uid ticket) (record s { cluster = with_finished s.cluster uid s.clock o }) replies.Done
  finish uid ticket None gone is none =
      let stale : true ≡ false = (first_three gone false true refusals.Gone refusals.Confirmed refusals.StaleTicket ((false, refusals.Confirmed) ∷ []) none).2 in
      absurd (cc)
  finish uid ticket (Some place) gone is none =
      let loose = (first_three gone (is_bound place.status) (not (has_ticket ticket place.status)) refusals.Gone refusals.Confirmed refusals.StaleTicket ((is_finished place.status, refusals.Confirmed) ∷ []) none).1 in
      record {
        node = refl;
        place = λ put mark h. subst (λ o. IsPut o put (unwrap_or (if_named uid q (Some s.clock)) mark) s.clock) (sym (read_insert (λ o. o) s.cluster.places uid q (finished_at s place))) (same_there loose (bytes_eq uid q) refl put mark h);
        clock = refl;
        known = λ known h. at_name (bytes_eq uid q) (pod_at s.queue q) (pod_at s.queue q) place_now (Some (finished_at s place)) (pod_at s.queue q) (fin.get (fin.insert s.cluster.places uid (finished_at s place)) q) None known
            (sym (same_both (bytes_eq uid q) (pod_at s.queue q))) (read_insert (λ o. o) s.cluster.places uid q (finished_at s place))
            (λ here. record { entry = h.entry; asked = same_asked s.clock place.status place.request known (subst (λ o. Asked o known) (placed here) h.asked) })
            (λ isnt. refl) h;
      }
    where
      placed : bytes_eq uid q ≡ true → fin.get s.cluster.places q ≡ Some place
      placed here = ap (fin.get s.cluster.places) (sym (same_of uid q here)) ∙ is

      same_there : is_bound place.status ≡ false → (b : Bool) → bytes_eq uid q ≡ b → (put : Put) (mark : Option Moment) → IsPut place_now put mark s.clock
          → IsPut (cond b (Some (finished_at s place)) place_now) put (unwrap_or (if b then Some (Some s.clock) else None) mark) s.clock
      same_there loose true here put mark h =
          let was = subst (λ o. IsPut o put mark s.clock) (placed here) h in
          (was.0 ∙ sym (same_put s.clock place.node place.request place.status), sym (marked s.clock place.status loose), fresh s.clock place.status)
      same_there loose false isnt put mark h = h

  bind_done : (uid : Name) (ticket : Ticket) (pass : ℕ) → OneOf s q (BindDone uid ticket) (step s pass (BindDone uid ticket)).state (step s pass (BindDone uid ticket)).reply
  bind_done uid ticket pass = both_of s q (BindDone uid ticket) (cluster.BindDone uid ticket s.clock (has_entry s.queue uid)) s.queue
      (finish uid ticket (fin.get s.cluster.places uid) (is_gone s.cluster uid (has_entry s.queue uid)) refl)

  forget : (uid : Name) (ticket : Ticket) (pass : ℕ) → OneOf s q (Forget uid ticket) (step s pass (Forget uid ticket)).state (step s pass (Forget uid ticket)).reply
  forget uid ticket pass = both_of s q (Forget uid ticket) (cluster.Forget uid ticket (has_entry s.queue uid)) (moved s (after_forget s.queue uid s.clock)) (λ none.
      let pods : pod_at (moved s (after_forget s.queue uid s.clock)) q ≡ pod_at s.queue q = pod_moved (after_forget s.queue uid s.clock) q s.clock ∙ pod_forgotten s.queue q uid s.clock in
      record {
        node = refl;
        place = λ put mark h. put_here (bytes_eq uid q) place_now None (fin.get (fin.remove s.cluster.places uid) q) put Nowhere mark None s.clock (read_remove (λ o. o) s.cluster.places uid q) refl h;
        clock = refl;
        known = λ known h. at_name (bytes_eq uid q) (pod_at s.queue q) (pod_at s.queue q) place_now None (pod_at (moved s (after_forget s.queue uid s.clock)) q) (fin.get (fin.remove s.cluster.places uid) q) None known
            (pods ∙ sym (same_both (bytes_eq uid q) (pod_at s.queue q))) (read_remove (λ o. o) s.cluster.places uid q)
            (λ is. record { entry = h.entry; asked = tt }) (λ isnt. refl) h;
      })

  fail : (uid : Name) (how : Failure) (pass : ℕ) → OneOf s q (Fail uid how) (step s pass (Fail uid how)).state (step s pass (Fail uid how)).reply
  fail uid how pass = unless_of s q (Fail uid how) (refusal_to_fail s pass uid) (record { state = record s { queue = after_fail s.queue uid (pass_number pass) how s.clock }; reply = replies.Done }) (λ none. record {
    node = refl;
    place = λ put mark h. h;
    clock = refl;
    known = λ known h. same_known (pod_at s.queue q) (pod_at (after_fail s.queue uid (pass_number pass) how s.clock) q) place_now known (pod_failed s.queue q uid (pass_number pass) how s.clock) h;
  })

  tick : (now : Moment) (pass : ℕ) → OneOf s q (Tick now) (step s pass (Tick now)).state (step s pass (Tick now)).reply
  tick now pass = unless_of s q (Tick now) (refusal_to_tick s now) (record { state = ticked_to s now; reply = replies.Done }) (λ none.
      let stays = get_unexpired s.cluster.places now q in
      record {
        node = refl;
        place = λ put mark h. subst (λ o. IsPut o put mark now) (sym stays) (later_put s.clock now (later none) place_now put mark h);
        clock = refl;
        known = λ known h. subst (λ p. Known (pod_at (ticked_to s now).queue q) p known) (sym stays)
            (same_known (pod_at s.queue q) (pod_at (ticked_to s now).queue q) (cond (stands (has_expired now) place_now) None place_now) known pods (left_known (stands (has_expired now) place_now) known h));
      })
    where
      later : refusal_to_tick s now ≡ None → s.clock.0 ≤ now.0
      later none = grind (arith, nat_tests, one_test (nat_lt now.0 s.clock.0) refusals.ClockBack none)

      expired : QueueState
      expired = after_expiry s.queue s.cluster.places now

      pods_if : (b : Bool) → pod_at (if b then after_move expired now else expired) q ≡ pod_at expired q
      pods_if true = pod_moved expired q now
      pods_if false = refl

      pods : pod_at (ticked_to s now).queue q ≡ pod_at s.queue q
      pods = pod_ticked (moved_if_expired s now expired) q now ∙ pods_if (any_expired s.cluster.places now) ∙ pod_expired s.queue q s.cluster.places now

      left_known : (b : Bool) (known : Option Pod) → Known (pod_at s.queue q) place_now known → Known (pod_at s.queue q) (cond b None place_now) known
      left_known true known h = record { entry = h.entry; asked = tt }
      left_known false known h = h

  -- whatever the step
  pub one_of : (pass : ℕ) (e : Step) → OneOf s q e (step s pass e).state (step s pass e).reply
  one_of pass (Event (NodeSet version node)) = node_set version node pass
  one_of pass (Event (NodeGone version name)) = node_gone version name pass
  one_of pass (Event (PodPending version pod)) = pod_pending version pod pass
  one_of pass (Event (PodBound version uid node request)) = pod_bound version uid node request pass
  one_of pass (Event (PodGone version uid)) = pod_gone version uid pass
  one_of pass Pop = pop pass
  one_of pass (Assume uid node) = assume uid node pass
  one_of pass (BindDone uid ticket) = bind_done uid ticket pass
  one_of pass (Forget uid ticket) = forget uid ticket pass
  one_of pass (Fail uid how) = fail uid how pass
  one_of pass (Tick now) = tick now pass
  one_of pass Count = record { node = refl; place = λ put mark h. h; clock = refl; known = λ known h. h }
