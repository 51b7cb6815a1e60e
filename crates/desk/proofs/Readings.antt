-- What a history tells of nodes and places is what the state after it has.
use Rattle.std.proofs.Common.{◌≡◌, ℕ, Bool, true, false, cond, ◌||◌, if◌then◌else◌, List, [], ◌∷◌, Option, None, Some, unwrap_or, refl, sym, ap, subst, ◌∙◌}
use Rattle.std.specs.Option.{option_or, option_map}
use Rattle.std.specs.List.{filter_map, list_any, cons_option}
use Rattle.std.specs.Str.{bytes_eq}
use Rattle.std.specs.Map.{lookup}
use Rattle.std.specs.Cmp.Lexicographic.{nat_list_cmp_total, bytes_decides}
use Rattle.std.specs.FinMap as fin
use Rattle.quant.specs.declared.event.Event.TheVariants.{NodeSet, NodeGone, PodPending, PodBound, PodGone}
use Rattle.quant.specs.declared.amount.Moment.{Moment}
use Rattle.quant.specs.declared.amount.Request.{Request}
use Rattle.quant.specs.declared.name.Name.{Name}
use Rattle.quant.specs.declared.objects.Pod.{Pod}
use Rattle.quant.specs.declared.version.Ticket.{Ticket}
use Rattle.book.specs.declared.limits.Limits.{Limits}
use Rattle.book.specs.declared.place.Place.{Place}
use Rattle.book.specs.declared.place.Status.{Status}
use Rattle.book.specs.declared.place.Status.TheVariants.{Assumed, Bound}
use Rattle.book.specs.Cluster.{name_cmp}
use Rattle.book.proofs.RowLemmas.{same_name}
use Rattle.book.proofs.TableLemmas.{test_turned, get_map}
use Rattle.desk.specs.declared.step.Step.{Step}
use Rattle.desk.specs.declared.step.Step.TheVariants.{Event, Pop, Assume, BindDone, Forget, Fail, Tick, Count}
use Rattle.desk.specs.declared.step.Reply.{Reply}
use Rattle.desk.specs.declared.step.Reply.TheVariants.{Done, Ticket as Given}
use Rattle.desk.specs.Machine.{State, opening, step, reply, after, snapshot}
use Rattle.desk.specs.inside.Caller.{Core}
use Rattle.desk.specs.History.{Call, AreAnswered, state_after, Legal, is_accepted, last_said, last_said_at, accepted, clock_in, clock_after, clock_of, if_named, row_in, row_of, pending_in, pending_of, put_in, put_of, Put, finish_in, finished_of, place_by, unless_expired, place_of, node_in, pod_in, found_at, rows_of, places_of, snap}
use Rattle.desk.specs.inside.History.{Leaves}
use Rattle.desk.specs.History.Put.{Chosen, Told, Nowhere}
use Rattle.desk.proofs.Pods.{pod_of, pod_at}
use Rattle.desk.proofs.Steps.{OneOf, Known, Agrees, Asked, AskedBy, put_by, mark_by, is_nowhere, IsPut, one_of}
use Rattle.desk.proofs.Rows.{shows}

-- the last of two that says anything, or else what was known
pub or_else : {X : Type 0} (a b : Option X) (d : X) → unwrap_or (option_or a b) d ≡ unwrap_or a (unwrap_or b d)
or_else None b d = refl
or_else (Some x) b d = refl

pub or_both : {X : Type 0} (a b d : Option X) → option_or a (option_or b d) ≡ option_or (option_or a b) d
or_both None b d = refl
or_both (Some x) b d = refl

-- what is so of one name after an answered call
call_of : (s : State) (q : Name) (c : Call) → c.reply ≡ reply s c.pass c.step → OneOf s q c.step (step s c.pass c.step).state c.reply
call_of s q c told = subst (λ r. OneOf s q c.step (step s c.pass c.step).state r) (sym told) (one_of s q c.pass c.step)

module _ (q : Name) where
  -- the row of the name, by going through the calls, the first one first
  pub row_is : (s : State) (l : List Call) → AreAnswered s l → fin.get (state_after s l).cluster.nodes q ≡ unwrap_or (last_said (accepted (row_in q)) l) (fin.get s.cluster.nodes q)
  row_is s [] all = refl
  row_is s (c ∷ l) all =
      row_is (after s c.pass c.step) l all.1
      ∙ ap (unwrap_or (last_said (accepted (row_in q)) l)) (call_of s q c all.0).node
      ∙ sym (or_else (last_said (accepted (row_in q)) l) (accepted (row_in q) c) (fin.get s.cluster.nodes q))

  -- the clock
  clock_is : (s : State) (l : List Call) → AreAnswered s l → (state_after s l).clock ≡ unwrap_or (last_said (accepted clock_in) l) s.clock
  clock_is s [] all = refl
  clock_is s (c ∷ l) all =
      clock_is (after s c.pass c.step) l all.1
      ∙ ap (unwrap_or (last_said (accepted clock_in) l)) (call_of s q c all.0).clock
      ∙ sym (or_else (last_said (accepted clock_in) l) (accepted clock_in c) s.clock)

  -- where its pod was put, and when its bind was reported done
  put_is : (s : State) (l : List Call) (put : Put) (mark : Option Moment) → AreAnswered s l → IsPut (fin.get s.cluster.places q) put mark s.clock
      → IsPut (fin.get (state_after s l).cluster.places q) (unwrap_or (put_of l q) put) (unwrap_or (last_said_at (λ clock. accepted (finish_in q clock)) s.clock l) mark) (state_after s l).clock
  put_is s [] put mark all h = h
  put_is s (c ∷ l) put mark all h =
      let one = call_of s q c all.0 in
      let rest = put_is (after s c.pass c.step) l (unwrap_or (put_in q c.step c.reply) put) (unwrap_or (accepted (finish_in q s.clock) c) mark) all.1 (one.place put mark h) in
      let says = λ (clock : Moment). last_said_at (λ at. accepted (finish_in q at)) clock l in
      subst (λ (p : Put). IsPut (fin.get (state_after s (c ∷ l)).cluster.places q) p (unwrap_or (last_said_at (λ clock. accepted (finish_in q clock)) s.clock (c ∷ l)) mark) (state_after s (c ∷ l)).clock)
      (sym (or_else (put_of l q) (put_in q c.step c.reply) put))
      (subst (λ (m : Option Moment). IsPut (fin.get (state_after s (c ∷ l)).cluster.places q) (unwrap_or (put_of l q) (unwrap_or (put_in q c.step c.reply) put)) m (state_after s (c ∷ l)).clock)
      (ap (λ (clock : Moment). unwrap_or (says clock) (unwrap_or (accepted (finish_in q s.clock) c) mark)) one.clock
      ∙ sym (or_else (says (clock_after s.clock c)) (accepted (finish_in q s.clock) c) mark))
      rest)

  -- and the pod that waits or was chosen for is the one that last came
  known_is : (s : State) (l : List Call) (known : Option Pod) → AreAnswered s l → Known (pod_at s.queue q) (fin.get s.cluster.places q) known
      → Known (pod_at (state_after s l).queue q) (fin.get (state_after s l).cluster.places q) (option_or (pending_of l q) known)
  known_is s [] known all h = h
  known_is s (c ∷ l) known all h =
      subst (λ o. Known (pod_at (state_after s (c ∷ l)).queue q) (fin.get (state_after s (c ∷ l)).cluster.places q) o) (or_both (pending_of l q) (accepted (pending_in q) c) known)
      (known_is (after s c.pass c.step) l (option_or (accepted (pending_in q) c) known) all.1 ((call_of s q c all.0).known known h))

-- a name that was put nowhere was never put, or put nowhere last, or its place has expired
nowhere : (o : Option Put) (pod : Option Pod) (mark : Option Moment) (clock : Moment) → is_nowhere (unwrap_or o Nowhere) mark clock ≡ true → unless_expired clock (place_by o pod mark) ≡ None
nowhere None pod mark clock h = refl
nowhere (Some (Chosen node ticket)) None mark clock h = refl
nowhere (Some (Chosen node ticket)) (Some pod) mark clock h = ap (λ b. if b then None else Some (record { node = node; request = pod.request; status = Assumed ticket mark })) h
nowhere (Some (Told node request)) pod mark clock h = absurd (cc)
nowhere (Some Nowhere) pod mark clock h = refl

-- one that was put somewhere was put so last
somewhere : (o : Option Put) (put : Put) → put ≡ unwrap_or o Nowhere → ((put ≡ Nowhere) → ⊥) → o ≡ Some put
somewhere None put e isnt = absurd (isnt e)
somewhere (Some other) put e isnt = ap Some (sym e)

chosen_somewhere : (node : Name) (ticket : Ticket) → Chosen node ticket ≡ Nowhere → ⊥
chosen_somewhere node ticket e = absurd (cc)

told_somewhere : (node : Name) (request : Request) → Told node request ≡ Nowhere → ⊥
told_somewhere node request e = absurd (cc)

-- the place that the three readings tell
by_status : (node : Name) (request : Request) (status : Status) (put : Option Put) (pod : Option Pod) (finished : Option Moment)
    → put_by node request status ≡ unwrap_or put Nowhere → mark_by status ≡ finished → AskedBy status request pod
    → Some (record { node = node; request = request; status = status }) ≡ place_by put pod finished
by_status node request (Assumed ticket marked) put pod finished e mark asked =
    let was : put ≡ Some (Chosen node ticket) = somewhere put (Chosen node ticket) e (chosen_somewhere node ticket) in
    rw (was, asked.1, asked.2, mark) refl
by_status node request Bound put pod finished e mark asked =
    let was : put ≡ Some (Told node request) = somewhere put (Told node request) e (told_somewhere node request) in
    rw was refl

by_place : (o : Option Place) (put : Option Put) (pod : Option Pod) (finished : Option Moment) (clock : Moment) → IsPut o (unwrap_or put Nowhere) finished clock → (waits : Option Pod) → Known waits o pod
    → o ≡ unless_expired clock (place_by put pod finished)
by_place None put pod finished clock is waits h = sym (nowhere put pod finished clock is)
by_place (Some place) put pod finished clock is waits h =
    let stays : Some place ≡ unless_expired clock (Some place) = ap (λ b. if b then None else Some place) (sym is.2) in
    stays ∙ ap (unless_expired clock) (by_status place.node place.request place.status put pod finished (sym is.0) (sym is.1) h.asked)

-- nothing said is nothing known
pub or_none : {X : Type 0} (o : Option X) → option_or o None ≡ o
or_none None = refl
or_none (Some x) = refl

module _ (limits : Limits) (l : List Call) (all : AreAnswered (opening limits) l) (q : Name) where
  -- what waits after a history, and what is placed, is of the pod that last came
  pub pods_known : Known (pod_at (state_after (opening limits) l).queue q) (fin.get (state_after (opening limits) l).cluster.places q) (pending_of l q)
  pods_known =
      subst (λ o. Known (pod_at (state_after (opening limits) l).queue q) (fin.get (state_after (opening limits) l).cluster.places q) o) (or_none (pending_of l q))
      (known_is q (opening limits) l None all (record {
        entry = subst (λ o. Agrees (pod_of o) None) (sym (fin.get-empty name_cmp q)) tt;
        asked = subst (λ o. Asked o None) (sym (fin.get-empty name_cmp q)) tt;
      }))

  -- the place that a history leaves
  pub place_is : fin.get (state_after (opening limits) l).cluster.places q ≡ place_of l q
  place_is =
      by_place (fin.get (state_after (opening limits) l).cluster.places q) (put_of l q) (pending_of l q) (finished_of l q) (state_after (opening limits) l).clock
      (put_is q (opening limits) l Nowhere None all (subst (λ o. IsPut o Nowhere None (record { 0 = 0 })) (sym (fin.get-empty name_cmp q)) refl))
      (pod_at (state_after (opening limits) l).queue q) pods_known
      ∙ ap (λ (clock : Moment). unless_expired clock (place_by (put_of l q) (pending_of l q) (finished_of l q))) (clock_is q (opening limits) l all)

-- ---- names

-- whether a step names q
abbrev pub names : Option Name → Name → Bool
names None q = false
names (Some n) q = bytes_eq q n

-- a name is among those of a step and of the rest where one of the two names it
any_named : (o : Option Name) (ns : List Name) (q : Name) → list_any (bytes_eq q) (cons_option o ns) ≡ (names o q || list_any (bytes_eq q) ns)
any_named None ns q = refl
any_named (Some n) ns q = refl

-- both parts of a test that fails
neither : (a b : Bool) → (a || b) ≡ false → (a ≡ false) × (b ≡ false)
neither true b h = absurd (cc)
neither false b h = (refl, h)

-- nothing in both cases
always_none : {X : Type 0} (b : Bool) → cond {A = Option X} b None None ≡ None
always_none true = refl
always_none false = refl

-- the entries of the names, with what is found there
abbrev pub pairs : {X : Type 0} → (Name → Option X) → List Name → List (Name × X)
pairs find ns = filter_map (λ n. option_map (λ x. (n, x)) (find n)) ns

-- what the entries have at q, where q is among the names
abbrev pub among : {X : Type 0} → (Name → Option X) → List Name → Name → Option X
among find ns q = cond (list_any (bytes_eq q) ns) (find q) None

module _ {X : Type 0} where
  -- one name more: what is found there, or what the others have
  found_more : (find : Name → Option X) (n : Name) (ns : List Name) (q : Name) → lookup (bytes_eq q) (pairs find ns) ≡ among find ns q
      → (o : Option X) → find n ≡ o → (b : Bool) → bytes_eq q n ≡ b → lookup (bytes_eq q) (pairs find (n ∷ ns)) ≡ among find (n ∷ ns) q
  found_more find n ns q rest None e true h =
      let none : find q ≡ None = ap find ((bytes_decides q n).0 h) ∙ e in
      ap (λ o. lookup (bytes_eq q) (cons_option (option_map (λ x. (n, x)) o) (pairs find ns))) e
      ∙ rest ∙ ap (λ o. cond (list_any (bytes_eq q) ns) o None) none ∙ always_none (list_any (bytes_eq q) ns)
      ∙ sym (ap (λ b. cond (b || list_any (bytes_eq q) ns) (find q) None) h ∙ none)
  found_more find n ns q rest None e false h =
      ap (λ o. lookup (bytes_eq q) (cons_option (option_map (λ x. (n, x)) o) (pairs find ns))) e
      ∙ rest ∙ sym (ap (λ b. cond (b || list_any (bytes_eq q) ns) (find q) None) h)
  found_more find n ns q rest (Some x) e true h =
      ap (λ o. lookup (bytes_eq q) (cons_option (option_map (λ x. (n, x)) o) (pairs find ns))) e
      ∙ ap (λ b. cond b (Some x) (lookup (bytes_eq q) (pairs find ns))) h
      ∙ sym (ap (λ b. cond (b || list_any (bytes_eq q) ns) (find q) None) h ∙ ap find ((bytes_decides q n).0 h) ∙ e)
  found_more find n ns q rest (Some x) e false h =
      ap (λ o. lookup (bytes_eq q) (cons_option (option_map (λ x. (n, x)) o) (pairs find ns))) e
      ∙ ap (λ b. cond b (Some x) (lookup (bytes_eq q) (pairs find ns))) h
      ∙ rest ∙ sym (ap (λ b. cond (b || list_any (bytes_eq q) ns) (find q) None) h)

  -- a map that has at each of the names what is found there has that at q, where q is among them
  found : (find : Name → Option X) (ns : List Name) (q : Name) → lookup (bytes_eq q) (pairs find ns) ≡ among find ns q
  found find [] q = refl
  found find (n ∷ ns) q = found_more find n ns q (found find ns q) (find n) refl (bytes_eq q n) refl

  -- and everywhere, where nothing is found but at the names
  at_names : (find : Name → Option X) (ns : List Name) (q : Name) → (list_any (bytes_eq q) ns ≡ false → find q ≡ None) → fin.get (found_at find ns) q ≡ find q
  at_names find ns q none = get_map (pairs find ns) q ∙ found find ns q ∙ by (list_any (bytes_eq q) ns) refl
    where
      by : (b : Bool) → list_any (bytes_eq q) ns ≡ b → cond b (find q) None ≡ find q
      by true h = refl
      by false h = sym (none h)

  -- nothing is said of a name that no step names
  nothing_said : (says : Call → Option X) (name_in : Step → Option Name) (q : Name) → ((c : Call) → names (name_in c.step) q ≡ false → says c ≡ None)
      → (l : List Call) → list_any (bytes_eq q) (filter_map (λ c. name_in c.step) l) ≡ false → last_said says l ≡ None
  nothing_said says name_in q silent [] h = refl
  nothing_said says name_in q silent (c ∷ l) h =
      let both = neither (names (name_in c.step) q) (list_any (bytes_eq q) (filter_map (λ c. name_in c.step) l)) (sym (any_named (name_in c.step) (filter_map (λ c. name_in c.step) l) q) ∙ h) in
      ap (λ o. option_or o (says c)) (nothing_said says name_in q silent l both.1) ∙ silent c both.0

-- a step says nothing of another name
not_said : {X : Type 0} (n q : Name) (x : X) → bytes_eq q n ≡ false → if_named n q x ≡ None
not_said n q x e = ap (λ b. if b then Some x else None) (test_turned n q ∙ e)

-- a step says nothing of a node that it doesn't name
row_silent : (q : Name) (e : Step) → names (node_in e) q ≡ false → row_in q e ≡ None
row_silent q (Event (NodeSet version node)) h = not_said node.name q (Some node) h
row_silent q (Event (NodeGone version name)) h = not_said name q None h
row_silent q _ h = refl

-- nor does it put a pod that it doesn't name
put_silent : (q : Name) (e : Step) (r : Reply) → names (pod_in e) q ≡ false → put_in q e r ≡ None
put_silent q (Event (NodeSet version node)) r h = refl
put_silent q (Event (NodeGone version name)) r h = refl
put_silent q (Event (PodPending version pod)) r h = refl
put_silent q (Event (PodBound version uid node request)) Done h = not_said uid q (Told node request) h
put_silent q (Event (PodBound version uid node request)) r h = refl
put_silent q (Event (PodGone version uid)) Done h = not_said uid q Nowhere h
put_silent q (Event (PodGone version uid)) r h = refl
put_silent q Pop r h = refl
put_silent q (Assume uid node) (Given ticket) h = not_said uid q (Chosen node ticket) h
put_silent q (Assume uid node) r h = refl
put_silent q (BindDone uid ticket) r h = refl
put_silent q (Forget uid ticket) Done h = not_said uid q Nowhere h
put_silent q (Forget uid ticket) r h = refl
put_silent q (Fail uid how) r h = refl
put_silent q (Tick now) r h = refl
put_silent q Count r h = refl

-- nothing accepted is said of it either
accepted_silent : (q : Name) (c : Call) → names (node_in c.step) q ≡ false → accepted (row_in q) c ≡ None
accepted_silent q c h = ap (λ o. if is_accepted c.reply then o else None) (row_silent q c.step h) ∙ always_none (is_accepted c.reply)

module _ (limits : Limits) (passes : ℕ) (l : List Call) (legal : Legal limits passes l) where
  -- the nodes are those that the history tells
  pub nodes_told : (state_after (opening limits) l).cluster.nodes ≡ rows_of l
  nodes_told = fin.same_map nat_list_cmp_total same_name _ _ (λ q.
      row_is q (opening limits) l legal.history.answered
      ∙ ap (unwrap_or (last_said (accepted (row_in q)) l)) (fin.get-empty name_cmp q)
      ∙ sym (at_names (row_of l) (filter_map (λ c. node_in c.step) l) q (λ h. ap (λ o. unwrap_or o None) (nothing_said (accepted (row_in q)) node_in q (accepted_silent q) l h))))

  -- and the places
  pub places_told : (state_after (opening limits) l).cluster.places ≡ places_of l
  places_told = fin.same_map nat_list_cmp_total same_name _ _ (λ q.
      place_is limits l legal.history.answered q
      ∙ sym (at_names (place_of l) (filter_map (λ c. pod_in c.step) l) q (λ h.
      ap (λ o. unless_expired (clock_of l) (place_by o (pending_of l q) (finished_of l q))) (nothing_said (λ c. put_in q c.step c.reply) pod_in q (λ c. put_silent q c.step c.reply) l h))))

-- the snapshot of the state that a history leaves is that of the history
pub snapshot_told : (d : Core) (l : List Call) → Leaves l d → snapshot d.state.cluster ≡ snap l
snapshot_told d l left =
    ap (λ (t : State). snapshot t.cluster) left.state
    ∙ (λ i. shows (nodes_told d.state.cluster.limits 64 l left.legal i) (places_told d.state.cluster.limits 64 l left.legal i))
