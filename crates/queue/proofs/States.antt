-- What each call does to the slots is what it is to do to the queue.
use Rattle.std.proofs.Common.{◌≡◌, ℕ, ◌<◌, ◌≤◌, Bool, true, false, cond, ⊎_elim, List, [], length, set, replicate, zero, suc, arith, refl, sym, ap, ◌∙◌, subst}
use Rattle.std.specs.Prelude.{◌≢◌, Option, Some, None, IsSome, MatchOption, is_some, option_map}
use Rattle.std.specs.Option.{option_map_or, option_cmp}
use Rattle.std.specs.Ordering.{nat_cmp, is_lt, ordering_then}
use Rattle.std.specs.FinMap as table
use Rattle.std.specs.Cmp.Lexicographic.{nat_list_cmp_total}
use Rattle.std.proofs.lemmas.List.{get_or-set_same, get_or-set_other, length-replicate}
use Rattle.quant.specs.declared.amount.Moment.{Moment}
use Rattle.quant.specs.declared.name.Name.{Name}
use Rattle.quant.specs.declared.objects.Pod.{Pod}
use Rattle.name_table.specs.Slots.{entry_in, name_in, value_in, filled, map_of, NamesOnce, with_free}
use Rattle.name_table.proofs.FreeLemmas.{free_sum}
use Rattle.name_table.proofs.SlotLemmas.{map_at, slot_with, len_map, sum_map}
use Rattle.std.proofs.lemmas.List.Sums.{count_by-le-length}
use Rattle.queued.specs.declared.state.State.{State}
use Rattle.queued.specs.declared.state.State.TheVariants.{Active, Backoff, Unschedulable, InFlight}
use Rattle.queued.specs.declared.state.PassNumber.{PassNumber}
use Rattle.queue.specs.declared.index.Index.{Index}
use Rattle.queue.specs.declared.refusal.Refusal.{Refusal}
use Rattle.queue.specs.declared.refusal.Refusal.TheVariants.{Known, Full, NotInFlight}
use Rattle.queued.specs.Entry.{Entry, new_entry, is_active, is_backoff, is_unschedulable, is_in_flight, is_in_flight_for, popped}
use Rattle.queue.specs.Order.{item_cmp, comes_before}
use Rattle.queue.specs.Queue.{no_entries, counts_of, QueueState, IsQueue, entry_of, has_entry, is_full_queue, stands, next_of, with_entry, with_change, changed_at, with_popped, unless_refused, refusal_to_add, after_add, after_pop, after_remove}
use Rattle.queue.specs.inside.Row.{at, IsIn}
use Rattle.queue.specs.inside.Heap.{Pods, wait_cmp, item_in, goes_before}
use Rattle.queued.specs.Change.{moment_of}
use Rattle.queue.specs.inside.Index.{stands_in, kept_with, changed_in, IsIndex, IsIndexBut}
use Rattle.queue.specs.inside.Slots.{state_of, OwnUids, IsKept, one_if, counts_so_far}
use Rattle.queue.proofs.Rows.{same_or_not}
use Rattle.queue.proofs.Heaps.{Kept, a_slot, top}
use Rattle.queue.proofs.Changes.{stands_of, none_in_row, once_changed, own_changed, length_changed, map_changed}
use Rattle.queue.proofs.Indexes.{there_if, changed, written, emptied, free_slot}
use Rattle.queue.proofs.Tables.{same_entries}
use Rattle.queue.proofs.Uids.{same, same_is}
use Rattle.queue.proofs.Next.{only_one_is_next, none_is_next}

-- a refused call changes nothing
pub refused : (r : Option Refusal) (why : Refusal) (old new : QueueState) → r ≡ Some why → old ≡ unless_refused r old new
refused r why old new is = sym (ap (λ o. unless_refused o old new) is)

-- a pod that is not known may be added where there is room
pub may_add : (q : QueueState) (uid : Name) → has_entry q uid ≡ false → is_full_queue q ≡ false → refusal_to_add q uid ≡ None
unfolding refusal_to_add
may_add q uid absent room =
    ap (λ b. cond b (Some Known) (cond (is_full_queue q) (Some Full) None)) absent ∙ ap (λ b. cond b (Some Full) None) room

-- one that is known is refused as such
pub known_to_add : (q : QueueState) (uid : Name) → has_entry q uid ≡ true → refusal_to_add q uid ≡ Some Known
unfolding refusal_to_add
known_to_add q uid there = ap (λ b. cond b (Some Known) (cond (is_full_queue q) (Some Full) None)) there

-- and any other where there is no room
pub full_to_add : (q : QueueState) (uid : Name) → has_entry q uid ≡ false → is_full_queue q ≡ true → refusal_to_add q uid ≡ Some Full
unfolding refusal_to_add
full_to_add q uid absent full =
    ap (λ b. cond b (Some Known) (cond (is_full_queue q) (Some Full) None)) absent ∙ ap (λ b. cond b (Some Full) None) full

-- an active pod waits for no moment
no_moment : (s : State) → is_active s ≡ true → moment_of s ≡ 0
no_moment Active h = refl
no_moment (Backoff until) h = cc
no_moment (Unschedulable since) h = cc
no_moment (InFlight pass moved) h = cc

-- the heaps' order of active pods is the queue's
active_order : (pods : Pods) (a b : ℕ) (x y : Kept) → entry_in pods a ≡ Some x → entry_in pods b ≡ Some y → is_active x.value.state ≡ true → is_active y.value.state ≡ true → goes_before pods a b ≡ false → comes_before (x.name, x.value) (y.name, y.value) ≡ false
unfolding goes_before
active_order pods a b x y is_x is_y act_x act_y order =
    let first : item_in pods a ≡ Some (x.name, x.value) = ap (option_map (λ (e : Kept). (e.name, e.value))) is_x in
    let second : item_in pods b ≡ Some (y.name, y.value) = ap (option_map (λ (e : Kept). (e.name, e.value))) is_y in
    let p = no_moment x.value.state act_x in
    let q = no_moment y.value.state act_y in
    sym (λ i. is_lt (ordering_then (nat_cmp (p i) (q i)) (item_cmp (x.name, x.value) (y.name, y.value))))
    ∙ sym (λ i. is_lt (option_cmp wait_cmp (first i) (second i)))
    ∙ order

-- the top of the active heap is in it
root_in : (xs : List ℕ) (s : ℕ) → 0 < length xs → at xs 0 ≡ s → IsIn xs s
root_in xs s some root = record { place = 0; within = some; is = root }

-- it has an entry
pub root_there : (pods : Pods) (index : Index) (s : ℕ) → IsIndex pods index → 0 < length index.active.slots → at index.active.slots 0 ≡ s → IsSome (entry_in pods s)
root_there pods index s i some root = there_if is_active (entry_in pods s) (i.active.there s (root_in index.active.slots s some root))

-- and that is what is popped next
pub next_some : (pods : Pods) (index : Index) (s : ℕ) (e : Kept) → IsIndex pods index → NamesOnce pods → 0 < length index.active.slots → at index.active.slots 0 ≡ s → entry_in pods s ≡ Some e → next_of (state_of pods) ≡ Some (e.name, e.value)
next_some pods index s e i once some root is =
    let act_e : is_active e.value.state ≡ true = sym (stands_of is_active pods s e is) ∙ i.active.there s (root_in index.active.slots s some root) in
    only_one_is_next (state_of pods) (e.name, e.value) record {
      there = map_at pods s e once is;
      active = act_e;
      first = λ other there act.
          let slot = slot_with pods other.0 other.1 once there in
          let x : Kept = record { name = other.0; value = other.1 } in
          let inside = i.active.all slot.0 (stands_of is_active pods slot.0 x slot.1 ∙ act) in
          let order : goes_before pods slot.0 s ≡ false = (λ j. goes_before pods (sym inside.is j) (sym root j)) ∙ top pods index.active.slots inside.place i.by_order inside.within in
          active_order pods slot.0 s x e slot.1 is act act_e order;
    }

-- what cannot be true is false
not_true : (b : Bool) → (b ≡ true → ⊥) → b ≡ false
not_true true h = absurd (h refl)
not_true false h = refl

-- where the active heap is empty, nothing is next
pub next_none : (pods : Pods) (index : Index) → IsIndex pods index → NamesOnce pods → length index.active.slots ≡ 0 → next_of (state_of pods) ≡ None
next_none pods index i once empty = none_is_next (state_of pods) (λ uid.
    elim (entry_of (state_of pods) uid) as (λ o. entry_of (state_of pods) uid ≡ o → MatchOption o (Unit {0}) (λ entry. is_active entry.state ≡ false)) [
      | None ↦ λ h. tt
      | Some v ↦ λ h.
          let slot = slot_with pods uid v once h in
          let x : Kept = record { name = uid; value = v } in
          not_true (is_active v.state) (λ act. none_in_row is_active pods index.active slot.0 x i.active empty slot.1 act)
    ] refl)

-- the queue with one pod changed
pub state_changed : (pods : Pods) (s : ℕ) (e : Kept) (f : Entry → Entry) → NamesOnce pods → entry_in pods s ≡ Some e → state_of (changed_in pods s f) ≡ with_entry (state_of pods) e.name (f e.value)
state_changed pods s e f once is i = record { limit = length_changed pods s f i; entries = map_changed pods s e f once is i }

-- what holds of a queue's parts still does, where one pod changes
pub kept_changed : (pods new : Pods) (old_index index : Index) (s old n : ℕ) (f : Entry → Entry) → IsKept pods old_index old → new ≡ changed_in pods s f → ((e : Entry) → (f e).pod.uid ≡ e.pod.uid) → IsSome (entry_in pods s) → IsIndex new index → n ≤ 28 → IsKept new index n
kept_changed pods new old_index index s old n f kept is keeps there indexed few = record {
  index = indexed;
  once = subst (λ (p : Pods). NamesOnce p) (sym is) (once_changed pods s f there kept.once);
  own_uid = subst (λ (p : Pods). OwnUids p) (sym is) (own_changed pods s f keeps there kept.own_uid);
  limited = omega (arith, ap (λ (p : Pods). length p) is, length_changed pods s f, kept.limited);
  few = few;
}

-- where the pod that changed stands now
pub stands_changed : (test : State → Bool) (pods : Pods) (s : ℕ) (e : Kept) (f : Entry → Entry) → entry_in pods s ≡ Some e → IsSome (entry_in pods s) → stands_in test (changed_in pods s f) s ≡ test (f e.value).state
stands_changed test pods s e f is there =
    ap (λ (o : Option Kept). option_map_or test (option_map (λ (k : Kept). k.value.state) o) false)
    (get_or-set_same pods s (kept_with f (entry_in pods s)) None (a_slot pods s there) ∙ ap (kept_with f) is)

-- a pop of the top of the active heap
pub pop_some : (pods new : Pods) (index : Index) (s : ℕ) (e : Kept) (pass : PassNumber) → IsIndex pods index → NamesOnce pods → 0 < length index.active.slots → at index.active.slots 0 ≡ s → entry_in pods s ≡ Some e → new ≡ changed_in pods s (popped pass) → state_of new ≡ after_pop (state_of pods) pass
unfolding after_pop
pop_some pods new index s e pass i once some root is new_is =
    ap (λ (p : Pods). state_of p) new_is
    ∙ state_changed pods s e (popped pass) once is
    ∙ sym (ap (with_popped (state_of pods) pass) (next_some pods index s e i once some root is))

-- a pop where none is active
pub pop_none : (pods : Pods) (index : Index) (pass : PassNumber) → IsIndex pods index → NamesOnce pods → length index.active.slots ≡ 0 → state_of pods ≡ after_pop (state_of pods) pass
unfolding after_pop
pop_none pods index pass i once empty = sym (ap (with_popped (state_of pods) pass) (next_none pods index i once empty))

-- a call that is refused where the entry does not pass a test
abbrev unless_passed : (Entry → Bool) → QueueState → Name → Option Refusal
unless_passed test q uid = cond (stands test (entry_of q uid)) None (Some NotInFlight)

-- what stands under the uid decides
pub refusal_by : (test : Entry → Bool) (q : QueueState) (uid : Name) (o : Option Entry) (b : Bool) → entry_of q uid ≡ o → stands test o ≡ b → unless_passed test q uid ≡ cond b None (Some NotInFlight)
refusal_by test q uid o b is passes = ap (λ p. cond (stands test p) None (Some NotInFlight)) is ∙ ap (λ c. cond c None (Some NotInFlight)) passes

-- a change of the entry of a uid that passes the test
pub change_accepted : (pods new : Pods) (s : ℕ) (e : Kept) (uid : Name) (test : Entry → Bool) (f : Entry → Entry) → NamesOnce pods → entry_in pods s ≡ Some e → e.name ≡ uid → test e.value ≡ true → new ≡ changed_in pods s f → state_of new ≡ unless_refused (unless_passed test (state_of pods) uid) (state_of pods) (changed_at (state_of pods) uid f)
change_accepted pods new s e uid test f once is name passes new_is =
    let q : QueueState = state_of pods in
    let there : entry_of q uid ≡ Some e.value = ap (table.get (map_of pods)) (sym name) ∙ map_at pods s e once is in
    ap (λ (p : Pods). state_of p) new_is
    ∙ state_changed pods s e f once is
    ∙ ap (λ (u : Name). with_entry q u (f e.value)) name
    ∙ sym (ap (λ r. unless_refused r q (changed_at q uid f)) (refusal_by test q uid (Some e.value) true there passes) ∙ ap (with_change q uid f) there)

-- what slots stand for is a queue
pub is_queue : (pods : Pods) (index : Index) (n : ℕ) → IsKept pods index n → IsQueue (state_of pods)
is_queue pods index n kept = record {
  own_uid = λ uid entry there. let slot = slot_with pods uid entry kept.once there in kept.own_uid slot.0 record { name = uid; value = entry } slot.1;
  within = omega (arith, len_map pods kept.once, count_by-le-length is_some pods);
  limited = kept.limited;
}

-- the name that was read in a slot
pub name_of_kept : (pods : Pods) (s : ℕ) (e : Kept) (name : Name) → entry_in pods s ≡ Some e → name_in pods s ≡ Some name → name ≡ e.name
name_of_kept pods s e name is named =
    let same : Some name ≡ Some e.name = sym named ∙ ap (option_map (λ (k : Kept). k.name)) is in cc

-- and the value
pub value_of_kept : (pods : Pods) (s : ℕ) (e : Kept) (value : Entry) → entry_in pods s ≡ Some e → value_in pods s ≡ Some value → value ≡ e.value
value_of_kept pods s e value is valued =
    let same : Some value ≡ Some e.value = sym valued ∙ ap (option_map (λ (k : Kept). k.value)) is in cc

-- how many stand where
pub counts-state : (pods : Pods) → NamesOnce pods → counts_so_far pods ≡ counts_of (state_of pods)
unfolding counts_of
counts-state pods once i = record {
  active = sym (sum_map (one_if is_active) pods once) i;
  backoff = sym (sum_map (one_if is_backoff) pods once) i;
  unschedulable = sym (sum_map (one_if is_unschedulable) pods once) i;
  in_flight = sym (sum_map (one_if is_in_flight) pods once) i;
}

-- free slots count for nothing
pub counts-free : (pods : Pods) (room : ℕ) → counts_so_far (with_free pods room) ≡ counts_so_far pods
counts-free pods room i = record {
  active = free_sum (one_if is_active) pods room i;
  backoff = free_sum (one_if is_backoff) pods room i;
  unschedulable = free_sum (one_if is_unschedulable) pods room i;
  in_flight = free_sum (one_if is_in_flight) pods room i;
}

-- nothing changes where nothing is taken out
nothing_taken : (b : Bool) (o : Option Entry) → (b ≡ true → o ≡ None) → cond b None o ≡ o
nothing_taken true o none = sym (none refl)
nothing_taken false o none = refl

-- the removal of a uid that is not there
pub remove_none : (pods : Pods) (uid : Name) → table.get (map_of pods) uid ≡ None → state_of pods ≡ after_remove (state_of pods) uid
unfolding after_remove
remove_none pods uid none =
    let same_map : table.remove (map_of pods) uid ≡ map_of pods = same_entries _ _ (λ q.
    table.get-remove nat_list_cmp_total (map_of pods) uid q
    ∙ nothing_taken (same q uid) (table.get (map_of pods) q) (λ h. ap (table.get (map_of pods)) (same_is q uid h) ∙ none)) in
    λ i. record { limit = length pods; entries = sym same_map i }

-- the removal of what a slot has
pub remove_some : (pods new : Pods) (s : ℕ) (e : Kept) (uid : Name) → entry_in pods s ≡ Some e → name_in pods s ≡ Some uid → length new ≡ length pods → map_of new ≡ table.remove (map_of pods) e.name → state_of new ≡ after_remove (state_of pods) uid
unfolding after_remove
remove_some pods new s e uid is named room taken =
    let name : e.name ≡ uid = let both : Some e.name ≡ Some uid = sym (ap (option_map (λ (k : Kept). k.name)) is) ∙ named in cc in
    λ i. record { limit = room i; entries = (taken ∙ ap (table.remove (map_of pods)) name) i }

-- and what holds of the parts then
pub kept_without : (pods new : Pods) (old_index index : Index) (s old n : ℕ) → IsKept pods old_index old → IsSome (entry_in pods s) → new ≡ set pods s None → NamesOnce new → length new ≡ length pods → IsIndexBut pods index s → n ≤ 28 → IsKept new index n
kept_without pods new old_index index s old n kept there is once room but few =
    let empty : entry_in (set pods s None) s ≡ None = get_or-set_same pods s None None (a_slot pods s there) in
    record {
      index = subst (λ (p : Pods). IsIndex p index) (sym is) (emptied (set pods s None) index s empty (changed pods (set pods s None) index s (written pods s None) but));
      once = once;
      own_uid = subst (λ (p : Pods). OwnUids p) (sym is) (λ t e at_t. ⊎_elim
          (λ (here : t ≡ s). let none : None ≡ Some e = sym (ap (entry_in (set pods s None)) here ∙ empty) ∙ at_t in cc)
          (λ (other : t ≢ s). kept.own_uid t e (sym (get_or-set_other pods s t None None other) ∙ at_t))
          (same_or_not t s));
      limited = omega (arith, room, kept.limited);
      few = few;
    }

-- and where a pod came into a free slot
pub kept_added : (pods new : Pods) (old_index index : Index) (s old n : ℕ) (e : Kept) → IsKept pods old_index old → s < length pods → new ≡ set pods s (Some e) → e.value.pod.uid ≡ e.name → NamesOnce new → length new ≡ length pods → IsIndex new index → n ≤ 28 → IsKept new index n
kept_added pods new old_index index s old n e kept lt is own once room i few =
    let here : entry_in (set pods s (Some e)) s ≡ Some e = get_or-set_same pods s (Some e) None lt in
    record {
      index = i;
      once = once;
      own_uid = subst (λ (p : Pods). OwnUids p) (sym is) (λ t x at_t. ⊎_elim
          (λ (same : t ≡ s).
          let both : Some e ≡ Some x = sym (ap (entry_in (set pods s (Some e))) same ∙ here) ∙ at_t in
          let one : e ≡ x = cc in
          subst (λ (k : Kept). k.value.pod.uid ≡ k.name) one own)
          (λ (other : t ≢ s). kept.own_uid t x (sym (get_or-set_other pods s t (Some e) None other) ∙ at_t))
          (same_or_not t s));
      limited = omega (arith, room, kept.limited);
      few = few;
    }

-- nothing is found where there is no entry
pub none_found : {X : Type 0} (o : Option X) → is_some o ≡ false → o ≡ None
none_found None e = refl
none_found (Some x) e = absurd (cc)

-- a pod comes into a free slot
pub add_some : (pods new : Pods) (pod : Pod) (now : Moment) (name : Name) (value : Entry) → has_entry (state_of pods) pod.uid ≡ false → is_full_queue (state_of pods) ≡ false → name ≡ pod.uid → value ≡ new_entry pod now → length new ≡ length pods → map_of new ≡ table.insert (map_of pods) name value → state_of new ≡ after_add (state_of pods) pod now
unfolding after_add
add_some pods new pod now name value absent room is_name is_value same_room put =
    let q : QueueState = state_of pods in
    (λ i. record { limit = same_room i; entries = (put ∙ (λ j. table.insert (map_of pods) (is_name j) (is_value j))) i })
    ∙ sym (ap (λ r. unless_refused r q (with_entry q pod.uid (new_entry pod now))) (may_add q pod.uid absent room))

-- the index before a pod enters that came into a free slot
pub index_added : (pods new : Pods) (index : Index) (s : ℕ) (o : Option Kept) → IsIndex pods index → entry_in pods s ≡ None → new ≡ set pods s o → IsIndexBut new index s
index_added pods new index s o i none is = subst (λ (p : Pods). IsIndexBut p index s) (sym is) (changed pods (set pods s o) index s (written pods s o) (free_slot pods index s none i))

-- slots that have no pod have no name twice
pub once_free : (room : ℕ) → NamesOnce {X = Entry} (replicate room None)
unfolding NamesOnce
once_free room i j name p q = let none : None ≡ Some name = sym (ap (option_map (λ (k : Kept). k.name)) (none_in room i)) ∙ p in cc
  where
    none_in : (room t : ℕ) → entry_in {X = Entry} (replicate room None) t ≡ None
    none_in zero t = refl
    none_in (suc room) zero = refl
    none_in (suc room) (suc t) = none_in room t

-- nor a pod of another uid
pub own_free : (room : ℕ) → OwnUids (replicate room None)
own_free room s e is = let none : None ≡ Some e = sym (none_in room s) ∙ is in cc
  where
    none_in : (room t : ℕ) → entry_in {X = Entry} (replicate room None) t ≡ None
    none_in zero t = refl
    none_in (suc room) zero = refl
    none_in (suc room) (suc t) = none_in room t

-- the entry of a uid is what its slot has
pub entry_of_kept : (pods : Pods) (s : ℕ) (e : Kept) (uid : Name) → NamesOnce pods → entry_in pods s ≡ Some e → e.name ≡ uid → entry_of (state_of pods) uid ≡ Some e.value
entry_of_kept pods s e uid once is name = ap (table.get (map_of pods)) (sym name) ∙ map_at pods s e once is

-- what a pass has popped, some pass has popped
pub is_in_flight_of : (pass : PassNumber) (s : State) → is_in_flight_for pass s ≡ true → is_in_flight s ≡ true
is_in_flight_of pass Active h = cc
is_in_flight_of pass (Backoff until) h = cc
is_in_flight_of pass (Unschedulable since) h = cc
is_in_flight_of pass (InFlight holder moved) h = refl

-- slots that have no pod have nothing under any name
filled_none : (room : ℕ) → filled {X = Entry} (replicate room None) ≡ []
filled_none zero = refl
filled_none (suc room) = filled_none room

-- as many slots as there is room for
pub length_free : (room : ℕ) → length {A = Option Kept} (replicate room None) ≡ room
length_free room = length-replicate room None

-- so they are a queue with no entry
pub free_state : (room : ℕ) → state_of (replicate room None) ≡ no_entries room
free_state room i = record { limit = length_free room i; entries = table.from_entries (filled_none room i) }
