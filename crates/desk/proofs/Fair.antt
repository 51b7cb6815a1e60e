-- A ticket is given where the pod that the pass popped fits on the node, by the history.
use Rattle.std.proofs.Common.{◌≡◌, ℕ, suc, Bool, true, false, not, cond, ◌||◌, if◌then◌else◌, List, [], ◌∷◌, ◌++◌, map, Option, None, Some, unwrap_or, Result, Ok, Err, is_ok, refl, sym, ap, subst, ◌∙◌, arith}
use Rattle.std.specs.List.{Contains}
use Rattle.std.specs.Option.{option_or}
use Rattle.std.specs.Str.{bytes_eq}
use Rattle.std.specs.Cmp.Lexicographic.{bytes_decides}
use Rattle.std.specs.FinMap as fin
use Rattle.quant.specs.declared.event.Event.TheVariants.{NodeSet, NodeGone, PodPending}
use Rattle.quant.specs.declared.amount.Request.{Request}
use Rattle.quant.specs.declared.name.Name.{Name}
use Rattle.quant.specs.declared.objects.Node.{Node}
use Rattle.quant.specs.declared.objects.Pod.{Pod}
use Rattle.quant.specs.declared.version.Ticket.{Ticket}
use Rattle.fit.specs.Fit.{fit_of}
use Rattle.fit.specs.declared.room.Shortage.{Shortage}
use Rattle.queued.specs.declared.state.PassNumber.{PassNumber}
use Rattle.queued.specs.Entry.{Entry as QueueEntry, is_in_flight_for}
use Rattle.queue.specs.Queue.{entry_of}
use Rattle.book.specs.declared.limits.Limits.{Limits}
use Rattle.book.specs.declared.refusal.Refusal.{Refusal}
use Rattle.book.specs.declared.refusal.Refusal.TheVariants as refusals
use Rattle.book.specs.declared.entry.Entry.{Entry}
use Rattle.book.specs.declared.entry.Entry.TheVariants.{Missing, Elsewhere, Held}
use Rattle.book.specs.declared.step.ClusterStep.TheVariants as cluster
use Rattle.book.specs.Cluster.{Cluster, name_cmp}
use Rattle.book.specs.Step as book_step
use Rattle.book.specs.Step.{is_gone, is_queued, is_placed, is_held, is_there, fits_now, fits_row, are_tickets_gone}
use Rattle.book.specs.Tables.{is_full_for}
use Rattle.book.specs.Used.{used}
use Rattle.book.proofs.TableLemmas.{same_test}
use Rattle.desk.specs.declared.step.Step.{Step}
use Rattle.desk.specs.declared.step.Step.TheVariants.{Event, Assume}
use Rattle.desk.specs.declared.step.Reply.{Reply}
use Rattle.desk.specs.declared.step.Reply.TheVariants.{Ticket as Given}
use Rattle.desk.specs.inside.Caller.{Core}
use Rattle.desk.specs.Shown.{Shown}
use Rattle.desk.specs.Machine.{State, Outcome, opening, unless, entry_for, entry_at, pass_number, reply, after}
use Rattle.desk.specs.History.{Call, AreAnswered, state_after, is_accepted, last_said, accepted, if_named, row_in, row_of, pending_in, pending_of, popped_in, popped_of, FitsThere, IsFairTicket}
use Rattle.desk.specs.inside.History.{Leaves}
use Rattle.desk.proofs.Histories.{state_more, append_nil}
use Rattle.desk.proofs.Deciding.{first_five, not_false}
use Rattle.desk.proofs.Steps.{Agrees, done_by}
use Rattle.desk.proofs.Readings.{or_none, or_both, row_is, pods_known, snapshot_told}
use Rattle.desk.proofs.Held.{held_of, held_at, IsOwn, held_step}

-- ---- what is said is of the name

-- the last that is said has what all that is said has
last_good : {X : Type 0} (says : Call → Option X) (P : X → Type 0) → ((c : Call) (x : X) → says c ≡ Some x → P x) → (l : List Call) (x : X) → last_said says l ≡ Some x → P x
last_good {X = X} says P each [] x e = absurd (cc)
last_good {X = X} says P each (c ∷ l) x e = by (last_said says l) (last_good says P each l x) e
  where
    by : (o : Option X) → (o ≡ Some x → P x) → option_or o (says c) ≡ Some x → P x
    by None earlier e = each c x e
    by (Some y) earlier e = earlier e

-- what an accepted call says its step says
pub accepted_says : {X : Type 0} (b : Bool) (o : Option X) (x : X) → (if b then o else None) ≡ Some x → o ≡ Some x
accepted_says true o x e = e
accepted_says false o x e = absurd (cc)

pub named_says : {X : Type 0} (n q : Name) (x y : X) → if_named n q x ≡ Some y → (n ≡ q) × (x ≡ y)
named_says n q x y e = by (bytes_eq n q) refl e
  where
    by : (b : Bool) → bytes_eq n q ≡ b → (if b then Some x else None) ≡ Some y → (n ≡ q) × (x ≡ y)
    by true is e = ((bytes_decides n q).0 is, cc)
    by false is e = absurd (cc)

pending_named : (q : Name) (e : Step) (pod : Pod) → pending_in q e ≡ Some pod → pod.uid ≡ q
pending_named q (Event (PodPending version other)) pod h = let is = named_says other.uid q other pod h in ap (λ (x : Pod). x.uid) (sym is.1) ∙ is.0
pending_named q _ pod h = absurd (cc)

-- a row is of the name, if it is one
abbrev pub IsNamed : Name → Option Node → Type 0
IsNamed q o = (row : Node) → o ≡ Some row → row.name ≡ q

pub row_named : (q : Name) (e : Step) (o : Option Node) → row_in q e ≡ Some o → IsNamed q o
row_named q (Event (NodeSet version node)) o h row is =
    let said = named_says node.name q (Some node) o h in
    let same : node ≡ row = cc in
    ap (λ (x : Node). x.name) (sym same) ∙ said.0
row_named q (Event (NodeGone version name)) o h row is =
    let said = named_says name q None o h in
    absurd (cc)
row_named q _ o h row is = absurd (cc)

-- the last row that is told of a name is of that name
row_own : (l : List Call) (q : Name) (row : Node) → row_of l q ≡ Some row → row.name ≡ q
row_own l q row e = by (last_said (accepted (row_in q)) l) refl e
  where
    by : (o : Option (Option Node)) → last_said (accepted (row_in q)) l ≡ o → unwrap_or o None ≡ Some row → row.name ≡ q
    by None is e = absurd (cc)
    by (Some o) is e = last_good (accepted (row_in q)) (IsNamed q) (λ c x h. row_named q c.step x (accepted_says (is_accepted c.reply) (row_in q c.step) x h)) l o is row e

-- ---- parts of a history

pub together : (xs ys : List Call) (c : Call) → xs ++ c ∷ ys ≡ (xs ++ c ∷ []) ++ ys
together [] ys c = refl
together (x ∷ xs) ys c = ap (λ r. x ∷ r) (together xs ys c)

pub answered_part : (s : State) (before later : List Call) → AreAnswered s (before ++ later) → AreAnswered s before
answered_part s [] later all = tt
answered_part s (c ∷ before) later all = (all.0, answered_part (after s c.pass c.step) before later all.1)

pub answered_next : (s : State) (before : List Call) (c : Call) (later : List Call) → AreAnswered s (before ++ c ∷ later) → c.reply ≡ reply (state_after s before) c.pass c.step
answered_next s [] c later all = all.0
answered_next s (d ∷ before) c later all = answered_next (after s d.pass d.step) before c later all.1

pub said_more : {X : Type 0} (says : Call → Option X) (l : List Call) (c : Call) → last_said says (l ++ c ∷ []) ≡ option_or (says c) (last_said says l)
said_more says [] c = sym (or_none (says c))
said_more says (d ∷ l) c = ap (λ o. option_or o (says d)) (said_more says l c) ∙ sym (or_both (says c) (last_said says l) (says d))

-- each pod waits under its own uid
pub own_after : (limits : Limits) (l : List Call) → AreAnswered (opening limits) l → IsOwn (state_after (opening limits) l).queue
own_after limits l all q pod waits =
    let known = (pods_known limits l all q).entry in
    let came : pending_of l q ≡ Some pod = subst (λ o. Agrees o (pending_of l q)) waits known in
    last_good (accepted (pending_in q)) (λ (x : Pod). x.uid ≡ q) (λ c x h. pending_named q c.step x (accepted_says (is_accepted c.reply) (pending_in q c.step) x h)) l pod came

module _ (limits : Limits) (l : List Call) (all : AreAnswered (opening limits) l) (p : ℕ) (q : Name) where
  -- what a pass holds after a history and what it popped last
  abbrev AgreesAfter : List Call → Type 0
  AgreesAfter k = Agrees (held_at (state_after (opening limits) k).queue p q) (popped_of k p q)

  held_from : (before later : List Call) → l ≡ before ++ later → AgreesAfter before → AgreesAfter l
  held_from before [] e h = subst AgreesAfter (sym (e ∙ append_nil before)) h
  held_from before (c ∷ later) e h =
      let given = subst (AreAnswered (opening limits)) e all in
      let s = state_after (opening limits) before in
      let told : c.reply ≡ reply s c.pass c.step = answered_next (opening limits) before c later given in
      let one = held_step s p q (own_after limits before (answered_part (opening limits) before (c ∷ later) given)) c.pass c.step (popped_of before p q) h in
      held_from (before ++ c ∷ []) later (e ∙ together before later c)
      (subst (λ (t : State). Agrees (held_at t.queue p q) (popped_of (before ++ c ∷ []) p q)) (sym (state_more (opening limits) before c))
      (subst (Agrees (held_at (after s c.pass c.step).queue p q)) (ap (λ r. option_or (popped_in p q c.pass r) (popped_of before p q)) (sym told) ∙ sym (said_more (λ d. popped_in p q d.pass d.reply) before c)) one))

  -- what a pass holds is what its last pop of the uid gave
  pub held_after : AgreesAfter l
  held_after = held_from [] l refl (subst (λ o. Agrees (held_of (pass_number p) o) None) (sym (fin.get-empty name_cmp q)) tt)

-- ---- the ticket

-- what is found in a map is among what its entries show
contains_shown : {X Y : Type 0} (f : Name × X → Y) (es : List (Name × X)) (q : Name) (x : X) → fin.find name_cmp q es ≡ Some x → Contains (map f es) (f (q, x))
contains_shown f [] q x e = absurd (cc)
contains_shown f (entry ∷ es) q x e = by (bytes_eq q entry.0) refl (contains_shown f es q x) (ap (λ b. cond b (Some entry.1) (fin.find name_cmp q es)) (sym (same_test q entry.0)) ∙ e)
  where
    by : (b : Bool) → bytes_eq q entry.0 ≡ b → (fin.find name_cmp q es ≡ Some x → Contains (map f es) (f (q, x))) → cond b (Some entry.1) (fin.find name_cmp q es) ≡ Some x → Contains (f entry ∷ map f es) (f (q, x))
    by true is later e =
        let same : q ≡ entry.0 = (bytes_decides q entry.0).0 is in
        let value : entry.1 ≡ x = cc in
        (0, omega arith, λ i. f (sym same i, value i))
    by false is later e =
        let rest = later e in
        (suc rest.0, omega (arith, rest.1), rest.2)

-- a step that is answered by a ticket is not refused
pub taken : (o : Option Refusal) (s : State) (done : Outcome) (ticket : Ticket) → Given ticket ≡ (unless o s done).reply → o ≡ None
taken None s done ticket e = refl
taken (Some why) s done ticket e = absurd (cc)

-- what the pass asks for is of the pod that it holds
asked_for : (pass : PassNumber) (o : Option QueueEntry) (request : Request) → entry_for pass o ≡ Held request → (pod : Pod) × (held_of pass o ≡ Some pod) × (request ≡ pod.request)
asked_for pass None request e = absurd (cc)
asked_for pass (Some entry) request e = by (is_in_flight_for pass entry.state) e
  where
    by : (b : Bool) → (if b then Held entry.pod.request else Elsewhere) ≡ Held request → (pod : Pod) × ((if b then Some entry.pod else None) ≡ Some pod) × (request ≡ pod.request)
    by true e = (entry.pod, refl, cc)
    by false e = absurd (cc)

-- an entry that is held and fits asks for something
pub held_and_fits : (c : Cluster) (node : Name) (entry : Entry) → is_held entry ≡ true → fits_now c node entry ≡ true → (request : Request) × (entry ≡ Held request) × (fits_row c node request (fin.get c.nodes node) ≡ true)
held_and_fits c node Missing held fits = absurd (cc)
held_and_fits c node Elsewhere held fits = absurd (cc)
held_and_fits c node (Held request) held fits = (request, refl, fits)

pub ok_of : (r : Result (Unit {0}) Shortage) → is_ok r ≡ true → r ≡ Ok tt
ok_of (Ok u) h = refl
ok_of (Err why) h = absurd (cc)

pub fits_on : (c : Cluster) (node : Name) (request : Request) (o : Option Node) → fits_row c node request o ≡ true → (row : Node) × (o ≡ Some row) × (fit_of row.allocatable (used c.places node) request ≡ Ok tt)
fits_on c node request None h = absurd (cc)
fits_on c node request (Some row) h = (row, refl, ok_of (fit_of row.allocatable (used c.places node) request) h)

module _ (d : Core) (l : List Call) (left : Leaves l d) (p : ℕ) (uid node : Name) (ticket : Ticket) (told : Given ticket ≡ reply d.state p (Assume uid node)) where
  fits_there : FitsThere l p uid node
  fits_there =
      let s = d.state in
      let c = s.cluster in
      let entry = entry_at s p uid in
      let none = taken (book_step.refusal c (cluster.Assume uid node entry)) s (done_by s (cluster.Assume uid node entry) s.queue) ticket told in
      let passed = first_five (is_gone c uid (is_queued entry)) (is_placed c uid) (not (is_held entry)) (not (is_there c node)) (not (fits_now c node entry)) refusals.Gone refusals.Placed refusals.NotInFlight refusals.NoNode refusals.NoRoom
      ((is_full_for c.places c.limits.placed uid || are_tickets_gone c, refusals.Full) ∷ []) none in
      let held = held_and_fits c node entry (not_false (is_held entry) passed.0) (not_false (fits_now c node entry) passed.2) in
      let pod = asked_for (pass_number p) (entry_of s.queue uid) held.0 held.1 in
      let fits = fits_on c node held.0 (fin.get c.nodes node) held.2 in
      let agrees : Agrees (held_at s.queue p uid) (popped_of l p uid) = subst (λ (t : State). Agrees (held_at t.queue p uid) (popped_of l p uid)) (sym left.state) (held_after c.limits l left.legal.history.answered p uid) in
      let row : Shown = record { node = fits.0; used = used c.places node } in
      let reading : fin.get c.nodes node ≡ row_of l node =
      ap (λ (t : State). fin.get t.cluster.nodes node) left.state ∙ row_is node (opening c.limits) l left.legal.history.answered
      ∙ ap (unwrap_or (last_said (accepted (row_in node)) l)) (fin.get-empty name_cmp node) in
      record {
        pod = pod.0;
        popped = subst (λ o. Agrees o (popped_of l p uid)) pod.1 agrees;
        row = row;
        shown = subst (λ (rows : List Shown). Contains rows row) (snapshot_told d l left)
            (contains_shown (λ e. record { node = e.1; used = used c.places e.0 }) (fin.entries c.nodes) node fits.0 (sym (fin.get-entries c.nodes node) ∙ fits.1));
        named = row_own l node fits.0 (sym reading ∙ fits.1);
        fits = ap (fit_of fits.0.allocatable (used c.places node)) (sym pod.2) ∙ fits.2;
      }

-- a ticket is given fairly
pub fair : (d : Core) (l : List Call) → Leaves l d → (p : ℕ) (e : Step) (answer : Reply) → answer ≡ reply d.state p e → IsFairTicket l p e answer
fair d l left p (Assume uid node) (Given ticket) told = fits_there d l left p uid node ticket told
fair d l left p e answer told = tt
