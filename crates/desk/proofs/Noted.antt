-- What a step changes of the rows of nodes, by whose rows it may change.
use Rattle.std.proofs.Common.{◌≡◌, ℕ, ◌<◌, ◌≤◌, Bool, true, false, cond, not, ◌&&◌, [], ◌∷◌, length, Option, None, Some, refl, sym, ap, subst, ◌∙◌, arith}
use Rattle.std.specs.Prelude.{nat_le, vec_capacity}
use Rattle.std.specs.Global.{Vec}
use Rattle.std.specs.Str.{bytes_eq}
use Rattle.std.specs.Cmp.Lexicographic.{nat_list_cmp_total}
use Rattle.std.specs.FinMap as fin
use Rattle.quant.specs.declared.event.Event.TheVariants.{NodeSet, NodeGone, PodPending, PodBound, PodGone}
use Rattle.quant.specs.declared.amount.Moment.{Moment}
use Rattle.quant.specs.declared.amount.Res.{Res}
use Rattle.quant.specs.declared.name.Name.{Name}
use Rattle.quant.specs.declared.objects.Node.{Node}
use Rattle.quant.specs.declared.version.Version.{Version}
use Rattle.book.specs.Cluster.{Cluster, Places}
use Rattle.book.specs.Rows.{named, rows_in, IsRowOf, IsGapFor}
use Rattle.book.specs.Step as book_step
use Rattle.book.specs.Expiry.{NoneExpired, unexpired}
use Rattle.book.specs.Used.{used}
use Rattle.book.specs.declared.place.Place.{Place}
use Rattle.book.specs.declared.refusal.Refusal.{Refusal}
use Rattle.book.specs.declared.entry.Entry.{Entry}
use Rattle.book.specs.declared.entry.Entry.TheVariants.{Missing, Elsewhere, Held}
use Rattle.book.specs.declared.step.ClusterStep.{ClusterStep}
use Rattle.book.specs.declared.step.ClusterStep.TheVariants as cluster
use Rattle.book.proofs.RowLemmas.{same_name}
use Rattle.queue.specs.Queue.{QueueState, has_entry, after_add, after_remove, after_forget, after_fail}
use Rattle.desk.specs.declared.step.Step.{Step}
use Rattle.desk.specs.declared.step.Step.TheVariants.{Event, Pop, Assume, BindDone, Forget, Fail, Tick, Count}
use Rattle.desk.specs.declared.step.Reply.TheVariants as replies
use Rattle.desk.specs.declared.subject.Subject.{Subject}
use Rattle.desk.specs.declared.subject.Subject.TheVariants as subject
use Rattle.desk.specs.Machine.{State, Outcome, both, unless, after, reply, told, of_node, of_pod, moved, moved_if_placed, entry_at, pass_number, refusal_to_fail, refusal_to_tick, ticked_to}
use Rattle.desk.specs.inside.Done.{is_refused}
use Rattle.desk.specs.inside.NodeCalls.{tells_of_node}
use Rattle.book.proofs.SumLemmas.{remove_absent}
use Rattle.desk.proofs.Steps.{absent, read_insert, read_remove}
use Rattle.desk.proofs.Expiring.{get_unexpired}
use Rattle.desk.specs.inside.Board.{IsSubject, IsChange}
use Rattle.desk.specs.declared.change.Change.TheVariants as change
use Rattle.desk.proofs.NodesStay.{stays}
use Rattle.desk.proofs.Changes.{no_change, same_used, set_change, come_change, gone_change, gap_absent}
use Rattle.desk.proofs.Rows.{len_all}
use Rattle.std.proofs.lemmas.Bool.{leb-false}

-- ---- a step that may move a pod

uid_of : Subject → Name
uid_of (subject.Pod uid) = uid
uid_of other = []

-- a place of another pod stays where it is put, taken out, or refused
module _ (s : State) (uid q : Name) (other : bytes_eq uid q ≡ false) where
  unless_place : (o : Option Refusal) (done : Outcome) → fin.get done.state.cluster.places q ≡ fin.get s.cluster.places q → fin.get (unless o s done).state.cluster.places q ≡ fin.get s.cluster.places q
  unless_place None done e = e
  unless_place (Some why) done e = refl

  both_place : (part : ClusterStep) (queue : QueueState) → fin.get (book_step.effect s.cluster part).places q ≡ fin.get s.cluster.places q → fin.get (both s part queue).state.cluster.places q ≡ fin.get s.cluster.places q
  both_place part queue e = unless_place (book_step.refusal s.cluster part) (record { state = record s { cluster = book_step.effect s.cluster part; queue = queue }; reply = told s.cluster part }) e

  put_place : (m : Places) (p : Place) → fin.get (fin.insert m uid p) q ≡ fin.get m q
  put_place m p = read_insert (λ o. o) m uid q p ∙ ap (λ b. cond b (Some p) (fin.get m q)) other

  taken_place : (m : Places) → fin.get (fin.remove m uid) q ≡ fin.get m q
  taken_place m = read_remove (λ o. o) m uid q ∙ ap (λ b. cond b None (fin.get m q)) other

  chosen_place : (node : Name) (entry : Entry) → fin.get (book_step.with_choice s.cluster uid node entry).places q ≡ fin.get s.cluster.places q
  chosen_place node Missing = refl
  chosen_place node Elsewhere = refl
  chosen_place node (Held request) = put_place s.cluster.places _

  finished_place : (at : Moment) (o : Option Place) → fin.get (book_step.with_finished s.cluster uid at o).places q ≡ fin.get s.cluster.places q
  finished_place at None = refl
  finished_place at (Some place) = put_place s.cluster.places _

-- the places of other pods stay
pub others_stay : (s : State) (pass : ℕ) (e : Step) (uid : Name) → IsSubject s.cluster e (subject.Pod uid) → (q : Name) → bytes_eq uid q ≡ false → fin.get (after s pass e).cluster.places q ≡ fin.get s.cluster.places q
unfolding uid_of
others_stay s pass (Event (PodBound version u node request)) uid is q other =
    let apart : bytes_eq u q ≡ false = ap (λ n. bytes_eq n q) (sym (ap uid_of is)) ∙ other in
    both_place s u q apart (of_pod s u (PodBound version u node request)) (after_remove s.queue u) (put_place s u q apart s.cluster.places _)
others_stay s pass (Event (PodGone version u)) uid is q other =
    let apart : bytes_eq u q ≡ false = ap (λ n. bytes_eq n q) (sym (ap uid_of is)) ∙ other in
    both_place s u q apart (of_pod s u (PodGone version u)) (moved_if_placed s u (after_remove s.queue u)) (taken_place s u q apart s.cluster.places)
others_stay s pass (Assume u node) uid is q other =
    let apart : bytes_eq u q ≡ false = ap (λ n. bytes_eq n q) (sym (ap uid_of is)) ∙ other in
    both_place s u q apart (cluster.Assume u node (entry_at s pass u)) s.queue (chosen_place s u q apart node (entry_at s pass u))
others_stay s pass (BindDone u ticket) uid is q other =
    let apart : bytes_eq u q ≡ false = ap (λ n. bytes_eq n q) (sym (ap uid_of is)) ∙ other in
    both_place s u q apart (cluster.BindDone u ticket s.clock (has_entry s.queue u)) s.queue (finished_place s u q apart s.clock (fin.get s.cluster.places u))
others_stay s pass (Forget u ticket) uid is q other =
    let apart : bytes_eq u q ≡ false = ap (λ n. bytes_eq n q) (sym (ap uid_of is)) ∙ other in
    both_place s u q apart (cluster.Forget u ticket (has_entry s.queue u)) (moved s (after_forget s.queue u s.clock)) (taken_place s u q apart s.cluster.places)
others_stay s pass (Tick now) uid is q other = absurd is
others_stay s pass _ uid is q other = absurd (cc)

-- and so do the nodes
pod_tells : (c : Cluster) (e : Step) (uid : Name) → IsSubject c e (subject.Pod uid) → tells_of_node e ≡ false
pod_tells c (Event (NodeSet version node)) uid is = absurd (cc)
pod_tells c (Event (NodeGone version name)) uid is = absurd (cc)
pod_tells c _ uid is = refl

pub nodes_stay : (s : State) (pass : ℕ) (e : Step) (uid : Name) → IsSubject s.cluster e (subject.Pod uid) → (after s pass e).cluster.nodes ≡ s.cluster.nodes
nodes_stay s pass e uid is = stays s pass e (pod_tells s.cluster e uid is)

-- ---- a step that changes no row

unless_places : (o : Option Refusal) (s : State) (done : Outcome) → done.state.cluster.places ≡ s.cluster.places → (unless o s done).state.cluster.places ≡ s.cluster.places
unless_places None s done e = e
unless_places (Some why) s done e = refl

-- where no place expires, all stay
none_go : (places : Places) (now : Moment) → NoneExpired places now → unexpired places now ≡ places
none_go places now none = fin.same_map nat_list_cmp_total same_name _ _ (λ q. get_unexpired places now q ∙ ap (λ b. cond b None (fin.get places q)) (none q))

nobody_tells : (c : Cluster) (e : Step) → IsSubject c e subject.Nothing → tells_of_node e ≡ false
nobody_tells c (Event (NodeSet version node)) is = absurd (cc)
nobody_tells c (Event (NodeGone version name)) is = absurd (cc)
nobody_tells c _ is = refl

pub nobody_nodes : (s : State) (pass : ℕ) (e : Step) → IsSubject s.cluster e subject.Nothing → (after s pass e).cluster.nodes ≡ s.cluster.nodes
nobody_nodes s pass e is = stays s pass e (nobody_tells s.cluster e is)

pub nobody_places : (s : State) (pass : ℕ) (e : Step) → IsSubject s.cluster e subject.Nothing → (after s pass e).cluster.places ≡ s.cluster.places
nobody_places s pass (Event (PodPending version pod)) is =
    let part = of_pod s pod.uid (PodPending version pod) in
    unless_places (book_step.refusal s.cluster part) s (record { state = record s { cluster = book_step.effect s.cluster part; queue = after_add s.queue pod s.clock }; reply = told s.cluster part }) refl
nobody_places s pass Pop is = refl
nobody_places s pass (Fail u how) is =
    unless_places (refusal_to_fail s pass u) s (record { state = record s { queue = after_fail s.queue u (pass_number pass) how s.clock }; reply = replies.Done }) refl
nobody_places s pass (Tick now) is = unless_places (refusal_to_tick s now) s (record { state = ticked_to s now; reply = replies.Done }) (none_go s.cluster.places now is)
nobody_places s pass Count is = refl
nobody_places s pass _ is = absurd (cc)

-- ---- a tick by which places expire

pub all_nodes : (s : State) (pass : ℕ) (e : Step) (all : Vec Res) → IsSubject s.cluster e (subject.All all) → (after s pass e).cluster.nodes ≡ s.cluster.nodes
all_nodes s pass (Tick now) all is = stays s pass (Tick now) refl
all_nodes s pass (Event (PodPending version pod)) all is = absurd (cc)
all_nodes s pass _ all is = absurd (cc)

pub all_room : (c : Cluster) (e : Step) (all : Vec Res) → IsSubject c e (subject.All all) → (all.items ≡ []) × (length (fin.entries c.nodes) ≤ vec_capacity all)
all_room c (Tick now) all is = is
all_room c (Event (PodPending version pod)) all is = absurd (cc)
all_room c _ all is = absurd (cc)

-- ---- a step that tells of a node

-- a refused step about a node changes nothing
module _ (s : State) (part : ClusterStep) (queue : QueueState) where
  abbrev done : Outcome
  done = record { state = record s { cluster = book_step.effect s.cluster part; queue = queue }; reply = told s.cluster part }

  refused_same : (o : Option Refusal) → is_refused done.reply ≡ false → is_refused ((unless o s done).reply) ≡ true → (unless o s done).state ≡ s
  refused_same None good bad = absurd (cc)
  refused_same (Some why) good bad = refl

  taken_done : (o : Option Refusal) → is_refused ((unless o s done).reply) ≡ false → o ≡ None
  taken_done None good = refl
  taken_done (Some why) good = absurd (cc)

  effect_done : (o : Option Refusal) → o ≡ None → (unless o s done).state.cluster ≡ book_step.effect s.cluster part
  effect_done None e = refl
  effect_done (Some why) e = absurd (cc)

-- ---- a node that is set

node_of : Node → Subject → Node
node_of other (subject.Set node) = node
node_of other t = other

same_node : (a b : Node) → subject.Set a ≡ subject.Set b → a ≡ b
unfolding node_of
same_node a b e = ap (node_of a) e

-- it is just that step
pub is_set : (c : Cluster) (e : Step) (node : Node) → IsSubject c e (subject.Set node) → (version : Version) × (e ≡ Event (NodeSet version node))
is_set c (Event (NodeSet version n)) node is = (version, λ i. Event (NodeSet version (same_node n node (sym is) i)))
is_set c (Tick now) node is = absurd is
is_set c _ node is = absurd (cc)

name_of : Subject → Name
name_of (subject.Gone name) = name
name_of other = []

pub is_gone_step : (c : Cluster) (e : Step) (name : Name) → IsSubject c e (subject.Gone name) → (version : Version) × (e ≡ Event (NodeGone version name))
unfolding name_of
is_gone_step c (Event (NodeGone version n)) name is = (version, λ i. Event (NodeGone version (ap name_of (sym is) i)))
is_gone_step c (Tick now) name is = absurd is
is_gone_step c _ name is = absurd (cc)

-- a step that tells of a node and is refused changes nothing
pub set_refused : (s : State) (pass : ℕ) (version : Version) (node : Node) → is_refused (reply s pass (Event (NodeSet version node))) ≡ true
    → (after s pass (Event (NodeSet version node))).cluster ≡ s.cluster
set_refused s pass version node bad =
    let part = of_node s (NodeSet version node) in
    ap (λ (t : State). t.cluster) (refused_same s part (moved s s.queue) (book_step.refusal s.cluster part) refl bad)

pub gone_refused : (s : State) (pass : ℕ) (version : Version) (name : Name) → is_refused (reply s pass (Event (NodeGone version name))) ≡ true
    → (after s pass (Event (NodeGone version name))).cluster ≡ s.cluster
gone_refused s pass version name bad =
    let part = of_node s (NodeGone version name) in
    ap (λ (t : State). t.cluster) (refused_same s part s.queue (book_step.refusal s.cluster part) refl bad)

-- one that is taken has its effect
pub set_taken : (s : State) (pass : ℕ) (version : Version) (node : Node) → is_refused (reply s pass (Event (NodeSet version node))) ≡ false
    → (book_step.refusal s.cluster (of_node s (NodeSet version node)) ≡ None) × ((after s pass (Event (NodeSet version node))).cluster ≡ record s.cluster { version = version.0; nodes = fin.insert s.cluster.nodes node.name node })
set_taken s pass version node good =
    let part = of_node s (NodeSet version node) in
    let none = taken_done s part (moved s s.queue) (book_step.refusal s.cluster part) good in
    (none, effect_done s part (moved s s.queue) (book_step.refusal s.cluster part) none)

pub gone_taken : (s : State) (pass : ℕ) (version : Version) (name : Name) → is_refused (reply s pass (Event (NodeGone version name))) ≡ false
    → (book_step.refusal s.cluster (of_node s (NodeGone version name)) ≡ None) × ((after s pass (Event (NodeGone version name))).cluster ≡ record s.cluster { version = version.0; nodes = fin.remove s.cluster.nodes name })
gone_taken s pass version name good =
    let part = of_node s (NodeGone version name) in
    let none = taken_done s part s.queue (book_step.refusal s.cluster part) good in
    (none, effect_done s part s.queue (book_step.refusal s.cluster part) none)

-- ---- what changes

pub nobody_change : (s : State) (pass : ℕ) (e : Step) → IsSubject s.cluster e subject.Nothing → IsChange s.cluster change.Nothing (after s pass e).cluster
nobody_change s pass e is = no_change s.cluster (after s pass e).cluster (nobody_nodes s pass e is) (same_used s.cluster (after s pass e).cluster (nobody_nodes s pass e is) (nobody_places s pass e is))

first_two : (a b : Bool) (x y : Refusal) → book_step.first_of ((a, x) ∷ (b, y) ∷ []) ≡ None → b ≡ false
first_two true b x y e = absurd (cc)
first_two false true x y e = absurd (cc)
first_two false false x y e = refl

-- a number that isn't at most another is less
not_at_most : (has : Bool) (room n : ℕ) → has ≡ false → (not has && nat_le room n) ≡ false → n < room
not_at_most true room n has e = absurd (cc)
not_at_most false room n has e = leb-false room n e

module _ (s : State) (pass : ℕ) (e : Step) (listed : named (rows_in s.cluster.nodes) ≡ fin.entries s.cluster.nodes) where
  module _ (node : Node) (is : IsSubject s.cluster e (subject.Set node)) where
    abbrev set : (version : Version) × (e ≡ Event (NodeSet version node))
    set = is_set s.cluster e node is

    pub set_refused_change : is_refused (reply s pass e) ≡ true → IsChange s.cluster change.Nothing (after s pass e).cluster
    set_refused_change bad =
        let same : (after s pass e).cluster ≡ s.cluster = ap (λ (f : Step). (after s pass f).cluster) set.1 ∙ set_refused s pass set.0 node (ap (λ (f : Step). is_refused (reply s pass f)) (sym set.1) ∙ bad) in
        subst (IsChange s.cluster change.Nothing) (sym same) (no_change s.cluster s.cluster refl refl)

    module _ (good : is_refused (reply s pass e) ≡ false) where
      abbrev taken : (book_step.refusal s.cluster (of_node s (NodeSet set.0 node)) ≡ None) × ((after s pass (Event (NodeSet set.0 node))).cluster ≡ record s.cluster { version = set.0.0; nodes = fin.insert s.cluster.nodes node.name node })
      taken = set_taken s pass set.0 node (ap (λ (f : Step). is_refused (reply s pass f)) (sym set.1) ∙ good)

      effect : (after s pass e).cluster ≡ record s.cluster { version = set.0.0; nodes = fin.insert s.cluster.nodes node.name node }
      effect = ap (λ (f : Step). (after s pass f).cluster) set.1 ∙ taken.1

      pub set_taken_change : (at : ℕ) → IsRowOf (rows_in s.cluster.nodes) node.name at → IsChange s.cluster (change.Set at node) (after s pass e).cluster
      set_taken_change at row = set_change s.cluster listed (after s pass e).cluster at node (ap (λ (c : Cluster). c.nodes) effect) (ap (λ (c : Cluster). c.places) effect) row

      pub come_taken_change : (at : ℕ) (u : Res) → IsGapFor (rows_in s.cluster.nodes) node.name at → at ≤ length (rows_in s.cluster.nodes) → u ≡ used (after s pass e).cluster.places node.name
          → IsChange s.cluster (change.Come at u node) (after s pass e).cluster
      come_taken_change at u gap le is_used =
          let full : (not (fin.contains_key s.cluster.nodes node.name) && nat_le s.cluster.limits.nodes (fin.len s.cluster.nodes)) ≡ false = first_two (book_step.is_old s.cluster set.0) _ _ _ taken.0 in
          let room : fin.len s.cluster.nodes < s.cluster.limits.nodes = not_at_most (fin.contains_key s.cluster.nodes node.name) s.cluster.limits.nodes (fin.len s.cluster.nodes) (gap_absent s.cluster listed node.name at gap) full in
          let many = len_all (rows_in s.cluster.nodes) s.cluster.nodes listed in
          come_change s.cluster listed (after s pass e).cluster at node u (ap (λ (c : Cluster). c.nodes) effect) (ap (λ (c : Cluster). c.places) effect) gap le (omega (arith, room, many)) is_used

  module _ (name : Name) (is : IsSubject s.cluster e (subject.Gone name)) where
    abbrev gone : (version : Version) × (e ≡ Event (NodeGone version name))
    gone = is_gone_step s.cluster e name is

    pub gone_refused_change : is_refused (reply s pass e) ≡ true → IsChange s.cluster change.Nothing (after s pass e).cluster
    gone_refused_change bad =
        let same : (after s pass e).cluster ≡ s.cluster = ap (λ (f : Step). (after s pass f).cluster) gone.1 ∙ gone_refused s pass gone.0 name (ap (λ (f : Step). is_refused (reply s pass f)) (sym gone.1) ∙ bad) in
        subst (IsChange s.cluster change.Nothing) (sym same) (no_change s.cluster s.cluster refl refl)

    module _ (good : is_refused (reply s pass e) ≡ false) where
      abbrev left : (book_step.refusal s.cluster (of_node s (NodeGone gone.0 name)) ≡ None) × ((after s pass (Event (NodeGone gone.0 name))).cluster ≡ record s.cluster { version = gone.0.0; nodes = fin.remove s.cluster.nodes name })
      left = gone_taken s pass gone.0 name (ap (λ (f : Step). is_refused (reply s pass f)) (sym gone.1) ∙ good)

      lost : (after s pass e).cluster ≡ record s.cluster { version = gone.0.0; nodes = fin.remove s.cluster.nodes name }
      lost = ap (λ (f : Step). (after s pass f).cluster) gone.1 ∙ left.1

      pub gone_taken_change : (at : ℕ) → IsRowOf (rows_in s.cluster.nodes) name at → IsChange s.cluster (change.Gone at) (after s pass e).cluster
      gone_taken_change at row = gone_change s.cluster listed (after s pass e).cluster at name (ap (λ (c : Cluster). c.nodes) lost) (ap (λ (c : Cluster). c.places) lost) row

      -- a node that goes was there
      pub gone_there : (at : ℕ) → IsGapFor (rows_in s.cluster.nodes) name at → ⊥
      gone_there at gap =
          let there : not (fin.contains_key s.cluster.nodes name) ≡ false = first_two (book_step.is_old s.cluster gone.0) _ _ _ left.0 in
          let none : fin.contains_key s.cluster.nodes name ≡ false = gap_absent s.cluster listed name at gap in
          let both : true ≡ false = ap not (sym none) ∙ there in
          absurd (cc)

-- ---- the queue

-- a pod without an entry has none to go
pub unremoved : (q : QueueState) (uid : Name) → has_entry q uid ≡ false → after_remove q uid ≡ q
unfolding after_remove
unremoved q uid none = ap (λ e. record q { entries = e }) (remove_absent q.entries uid (absent (fin.get q.entries uid) none))
