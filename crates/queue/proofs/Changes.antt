-- What becomes of the slots, and of the entries that they stand for, where the pod in one of them
-- changes.
use Rattle.std.proofs.Common.{◌≡◌, ℕ, ◌+◌, ◌<◌, ◌≤◌, Bool, true, false, cond, leb, ◌⊎◌, ⊎_elim, length, set, arith, refl, sym, ap, ◌∙◌}
use Rattle.std.specs.Prelude.{◌≢◌, Option, None, Some, IsSome, IfNone, option_map, sum_by}
use Rattle.std.specs.Option.{option_map_or, option_cmp}
use Rattle.std.specs.Cmp.{ranks}
use Rattle.std.specs.Cmp.Lexicographic.{nat_list_cmp_total}
use Rattle.std.specs.Ordering.{nat_cmp, is_lt, ordering_then, MatchOrdering}
use Rattle.std.specs.declared.cmp.Ordering.{Ordering}
use Rattle.std.specs.declared.cmp.Ordering.TheVariants.{Less, Equal, Greater}
use Rattle.std.specs.FinMap as table
use Rattle.std.proofs.lemmas.Bool.Decides.{nat_tests}
use Rattle.std.proofs.lemmas.List.{get_or-set_other, get_or-set_same, length-set}
use Rattle.std.proofs.lemmas.List.Sums.{sum_by-set}
use Rattle.quant.specs.declared.amount.Moment.{Moment}
use Rattle.quant.specs.declared.name.Name.{Name}
use Rattle.name_table.specs.Slots.{entry_in, value_in, with_value, put_in, map_of, NamesOnce}
use Rattle.name_table.specs.inside.Slots.{number_in}
use Rattle.name_table.proofs.SlotLemmas.{map_at, map_put, slot_with, once_put}
use Rattle.queued.specs.declared.state.State.{State}
use Rattle.queued.specs.declared.state.State.TheVariants.{Active, Backoff, Unschedulable, InFlight}
use Rattle.queue.specs.declared.index.Index.{Index}
use Rattle.queued.specs.Entry.{Entry, backed_off, ticked, moved_on, state_after_tick, state_after_move, is_backoff, is_unschedulable}
use Rattle.queue.specs.Queue.{Entries, each_changed}
use Rattle.queue.specs.inside.Row.{SlotRow, at, IsIn}
use Rattle.queue.specs.inside.Heap.{Pods, wait_cmp, item_in, goes_before, IsHeap}
use Rattle.queued.specs.Change.{moment_of}
use Rattle.queue.specs.inside.Index.{stands_in, is_unmarked, is_unmoved, kept_with, changed_in, Lists, IsIndex}
use Rattle.queued.specs.Change.{is_due}
use Rattle.queue.specs.inside.Slots.{OwnUids, one_if}
use Rattle.queue.proofs.Uids.{same, same_is}
use Rattle.queue.proofs.Tables.{same_entries, get-each_changed}
use Rattle.queue.proofs.Rows.{same_or_not}
use Rattle.queue.proofs.Heaps.{Kept, a_slot, top}
use Rattle.queue.proofs.Indexes.{there_if}

-- what is there is something
some_of : (o : Option Kept) → IsSome o → (e : Kept) × (o ≡ Some e)
some_of None there = cc
some_of (Some e) there = (e, refl)

-- the entry in a slot that has one
pub kept_in : (pods : Pods) (s : ℕ) → IsSome (entry_in pods s) → (e : Kept) × (entry_in pods s ≡ Some e)
kept_in pods s there = some_of (entry_in pods s) there

-- it is there
there_of : (o : Option Kept) (e : Kept) → o ≡ Some e → IsSome o
there_of None e is = cc
there_of (Some x) e is = refl

-- the same write, as the table has it
pub as_put : (pods : Pods) (s : ℕ) (e : Kept) (f : Entry → Entry) → entry_in pods s ≡ Some e → put_in pods s (f e.value) ≡ changed_in pods s f
as_put pods s e f is = ap (λ (o : Option Kept). set pods s (with_value o (f e.value))) is ∙ sym (ap (λ (o : Option Kept). set pods s (kept_with f o)) is)

-- a slot has its entry still where another value is written in it
some_with : (o : Option Kept) (w : Entry) → IsSome o → IsSome (with_value o w)
some_with None w there = there
some_with (Some e) w there = there

pub there_put : (pods : Pods) (s : ℕ) (w : Entry) → IsSome (entry_in pods s) → IsSome (entry_in (put_in pods s w) s)
there_put pods s w there =
    rw (get_or-set_same pods s (with_value (entry_in pods s) w) None (a_slot pods s there)) (some_with (entry_in pods s) w there)

-- a change leaves the name
same_name_with : (f : Entry → Entry) (o : Option Kept) → option_map (λ (e : Kept). e.name) (kept_with f o) ≡ option_map (λ (e : Kept). e.name) o
same_name_with f None = refl
same_name_with f (Some e) = refl

-- each uid is still there once
pub once_changed : (pods : Pods) (s : ℕ) (f : Entry → Entry) → IsSome (entry_in pods s) → NamesOnce pods → NamesOnce (changed_in pods s f)
once_changed pods s f there once = once_put pods s (kept_with f (entry_in pods s)) (a_slot pods s there) once (same_name_with f (entry_in pods s))

-- a change that leaves the uid leaves the slot its own
own_with : (f : Entry → Entry) → ((e : Entry) → (f e).pod.uid ≡ e.pod.uid) → (o : Option Kept) → ((e : Kept) → o ≡ Some e → e.value.pod.uid ≡ e.name) → (e : Kept) → kept_with f o ≡ Some e → e.value.pod.uid ≡ e.name
own_with f keeps None own e is = cc
own_with f keeps (Some x) own e is =
    let same : record { name = x.name; value = f x.value } ≡ e = cc in
    sym (ap (λ (k : Kept). k.value.pod.uid) same) ∙ keeps x.value ∙ own x refl ∙ ap (λ (k : Kept). k.name) same

-- and so in all slots
pub own_changed : (pods : Pods) (s : ℕ) (f : Entry → Entry) → ((e : Entry) → (f e).pod.uid ≡ e.pod.uid) → IsSome (entry_in pods s) → OwnUids pods → OwnUids (changed_in pods s f)
own_changed pods s f keeps there own t e is =
    ⊎_elim
    (λ (here : t ≡ s).
    let at_s : entry_in (changed_in pods s f) t ≡ kept_with f (entry_in pods s) = ap (entry_in (changed_in pods s f)) here ∙ get_or-set_same pods s (kept_with f (entry_in pods s)) None (a_slot pods s there) in
    own_with f keeps (entry_in pods s) (λ x. own s x) e (sym at_s ∙ is))
    (λ (other : t ≢ s). own t e (sym (get_or-set_other pods s t (kept_with f (entry_in pods s)) None other) ∙ is))
    (same_or_not t s)

-- as many slots
pub length_changed : (pods : Pods) (s : ℕ) (f : Entry → Entry) → length (changed_in pods s f) ≡ length pods
length_changed pods s f = length-set pods s (kept_with f (entry_in pods s))

-- the entries have the changed one under its uid
pub map_changed : (pods : Pods) (s : ℕ) (e : Kept) (f : Entry → Entry) → NamesOnce pods → entry_in pods s ≡ Some e → map_of (changed_in pods s f) ≡ table.insert (map_of pods) e.name (f e.value)
map_changed pods s e f once is =
    ap (λ (l : Pods). map_of l) (sym (as_put pods s e f is)) ∙ map_put pods s e.name (f e.value) once (ap (option_map (λ (k : Kept). k.name)) is)

-- a change that changes nothing a second time, of one entry before all
again : (f : Entry → Entry) (b : Bool) (v : Entry) (o : Option Entry) → f (f v) ≡ f v → (b ≡ true → o ≡ Some v) → option_map f (cond b (Some (f v)) o) ≡ option_map f o
again f true v o twice is = ap (λ (e : Entry). Some e) twice ∙ sym (ap (option_map f) (is refl))
again f false v o twice is = refl

-- so all may be changed after one was
pub each_again : (f : Entry → Entry) (m : Entries) (uid : Name) (v : Entry) → f (f v) ≡ f v → table.get m uid ≡ Some v → each_changed f (table.insert m uid (f v)) ≡ each_changed f m
each_again f m uid v twice is = same_entries _ _ (λ q.
    get-each_changed f (table.insert m uid (f v)) q
    ∙ ap (option_map f) (table.get-insert nat_list_cmp_total m uid (f v) q)
    ∙ again f (same q uid) v (table.get m q) twice (λ h. ap (table.get m) (same_is q uid h) ∙ is)
    ∙ sym (get-each_changed f m q))

-- another value, where it is what a change makes of the one before
with_is : (o : Option Kept) (v w : Entry) (f : Entry → Entry) → option_map (λ (e : Kept). e.value) o ≡ Some v → w ≡ f v → with_value o w ≡ kept_with f o
with_is None v w f value is = cc
with_is (Some e) v w f value is =
    let same : e.value ≡ v = cc in
    ap (λ (x : Entry). Some (record { name = e.name; value = x })) (is ∙ ap f (sym same))

-- and so in a slot
pub put_is : (pods : Pods) (s : ℕ) (v w : Entry) (f : Entry → Entry) → value_in pods s ≡ Some v → w ≡ f v → put_in pods s w ≡ changed_in pods s f
put_is pods s v w f value is = ap (set pods s) (with_is (entry_in pods s) v w f value is)

-- how many pods pass a test
abbrev pub tally : (State → Bool) → Pods → ℕ
tally test pods = sum_by (number_in (one_if test)) pods

-- the number of what a slot has, where it passes and then does not
passed : (test : State → Bool) (o : Option Kept) (f : Entry → Entry) → option_map_or test (option_map (λ (e : Kept). e.value.state) o) false ≡ true → ((e : Entry) → test (f e).state ≡ false) → (number_in (one_if test) o ≡ 1) × (number_in (one_if test) (kept_with f o) ≡ 0)
passed test None f stands fails = cc
passed test (Some e) f stands fails = (ap (λ b. cond b 1 0) stands, ap (λ b. cond b 1 0) (fails e.value))

-- one less passes a test, where a pod that passed it changes so that it does not
pub one_less : (test : State → Bool) (pods : Pods) (s : ℕ) (f : Entry → Entry) → stands_in test pods s ≡ true → ((e : Entry) → test (f e).state ≡ false) → tally test (changed_in pods s f) < tally test pods
one_less test pods s f stands fails =
    let slot : s < length pods = a_slot pods s (there_if test (entry_in pods s) stands) in
    let two = passed test (entry_in pods s) f stands fails in
    let moved : tally test (changed_in pods s f) + number_in (one_if test) (entry_in pods s) ≡ tally test pods + number_in (one_if test) (kept_with f (entry_in pods s)) = sum_by-set (number_in (one_if test)) pods s (kept_with f (entry_in pods s)) None slot in
    omega (arith, two.0, two.1, moved)

-- where a change leaves every pod as it is, it leaves the entries
kept_same : (f : Entry → Entry) (o : Option Entry) → ((v : Entry) → o ≡ Some v → f v ≡ v) → option_map f o ≡ o
kept_same f None same = refl
kept_same f (Some v) same = ap (λ (x : Entry). Some x) (same v refl)

-- the same
pub unchanged : (f : Entry → Entry) (pods : Pods) → NamesOnce pods → ((s : ℕ) (e : Kept) → entry_in pods s ≡ Some e → f e.value ≡ e.value) → each_changed f (map_of pods) ≡ map_of pods
unchanged f pods once same = same_entries _ _ (λ q.
    get-each_changed f (map_of pods) q
    ∙ kept_same f (table.get (map_of pods) q) (λ v is. let slot = slot_with pods q v once is in same slot.0 record { name = q; value = v } slot.1))

-- one step of a change of all
pub each_step : (f : Entry → Entry) (pods old : Pods) (s : ℕ) → ((e : Entry) → f (f e) ≡ f e) → NamesOnce pods → IsSome (entry_in pods s) → each_changed f (map_of pods) ≡ each_changed f (map_of old) → each_changed f (map_of (changed_in pods s f)) ≡ each_changed f (map_of old)
each_step f pods old s twice once there so_far =
    let e = kept_in pods s there in
    ap (each_changed f) (map_changed pods s e.0 f once e.1)
    ∙ each_again f (map_of pods) e.0.name e.0.value (twice e.0.value) (map_at pods s e.0 once e.1)
    ∙ so_far

-- an entry in another state
abbrev in_state : Entry → State → Entry
in_state e s = record e { state = s }

-- a second tick to the same moment changes nothing
tick_again : (now : Moment) (s : State) → state_after_tick now (state_after_tick now s) ≡ state_after_tick now s
tick_again now Active = refl
tick_again now (Backoff until) =
    elim (leb until.0 now.0) as (λ b. leb until.0 now.0 ≡ b → state_after_tick now (cond b Active (Backoff until)) ≡ cond b Active (Backoff until)) [
      | true ↦ λ h. refl
      | false ↦ λ h. ap (λ b. cond b Active (Backoff until)) h
    ] refl
tick_again now (Unschedulable since) =
    elim (leb (since.0 + 300000) now.0) as (λ b. leb (since.0 + 300000) now.0 ≡ b → state_after_tick now (cond b Active (Unschedulable since)) ≡ cond b Active (Unschedulable since)) [
      | true ↦ λ h. refl
      | false ↦ λ h. ap (λ b. cond b Active (Unschedulable since)) h
    ] refl
tick_again now (InFlight pass moved) = refl

-- the same of an entry
pub ticked_twice : (now : Moment) (e : Entry) → ticked now (ticked now e) ≡ ticked now e
ticked_twice now e = ap (in_state e) (tick_again now e.state)

-- what is not due stays as it is
pub tick_stays : (now : Moment) (s : State) → is_due now s ≡ false → state_after_tick now s ≡ s
tick_stays now Active h = refl
tick_stays now (Backoff until) h = ap (λ b. cond b Active (Backoff until)) h
tick_stays now (Unschedulable since) h = ap (λ b. cond b Active (Unschedulable since)) h
tick_stays now (InFlight pass moved) h = refl

-- what was released is not due
not_due_if : (now : Moment) (s : State) (b : Bool) → is_due now s ≡ b → is_due now (cond b Active s) ≡ false
not_due_if now s true h = refl
not_due_if now s false h = h

-- so nothing is due after a tick
pub ticked_rests : (now : Moment) (e : Entry) → is_due now (ticked now e).state ≡ false
ticked_rests now e = rests now e.state
  where
    rests : (now : Moment) (s : State) → is_due now (state_after_tick now s) ≡ false
    rests now Active = refl
    rests now (Backoff until) = not_due_if now (Backoff until) (leb until.0 now.0) refl
    rests now (Unschedulable since) = not_due_if now (Unschedulable since) (leb (since.0 + 300000) now.0) refl
    rests now (InFlight pass moved) = refl

-- what a move makes of a state, of which a second one makes no more
move_again : (now : Moment) (attempts : ℕ) (s : State) → state_after_move now attempts (state_after_move now attempts s) ≡ state_after_move now attempts s
move_again now attempts Active = refl
move_again now attempts (Backoff until) = refl
move_again now attempts (Unschedulable since) = woken (leb (backed_off since attempts).0 now.0)
  where
    woken : (b : Bool) → state_after_move now attempts (cond b Active (Backoff (backed_off since attempts))) ≡ cond b Active (Backoff (backed_off since attempts))
    woken true = refl
    woken false = refl
move_again now attempts (InFlight pass moved) = refl

-- the same of an entry
pub moved_twice : (now : Moment) (e : Entry) → moved_on now (moved_on now e) ≡ moved_on now e
moved_twice now e = ap (in_state e) (move_again now e.attempts e.state)

-- what has seen a move stays as it is
pub move_stays : (now : Moment) (attempts : ℕ) (s : State) → is_unmoved s ≡ false → state_after_move now attempts s ≡ s
move_stays now attempts Active h = refl
move_stays now attempts (Backoff until) h = refl
move_stays now attempts (Unschedulable since) h = cc
move_stays now attempts (InFlight pass true) h = refl
move_stays now attempts (InFlight pass false) h = cc

-- and all have after one
pub moved_rests : (now : Moment) (e : Entry) → is_unmoved (moved_on now e).state ≡ false
moved_rests now e = rests now e.attempts e.state
  where
    woken : (now over : Moment) (b : Bool) → is_unmoved (cond b Active (Backoff over)) ≡ false
    woken now over true = refl
    woken now over false = refl

    rests : (now : Moment) (attempts : ℕ) (s : State) → is_unmoved (state_after_move now attempts s) ≡ false
    rests now attempts Active = refl
    rests now attempts (Backoff until) = refl
    rests now attempts (Unschedulable since) = woken now (backed_off since attempts) (leb (backed_off since attempts).0 now.0)
    rests now attempts (InFlight pass moved) = refl

-- a later one by the heaps' order has no earlier moment
late : (o q : Ordering) (x y : ℕ) → MatchOrdering o (x < y) (x ≡ y) (y < x) → is_lt (ordering_then o q) ≡ false → y ≤ x
late Less q x y rank h = cc
late Equal q x y rank h = omega (arith, rank)
late Greater q x y rank h = omega (arith, rank)

-- the moment of what stands behind the top of a heap
pub top_moment : (pods : Pods) (a b : ℕ) (x y : Kept) → entry_in pods a ≡ Some x → entry_in pods b ≡ Some y → goes_before pods a b ≡ false → moment_of y.value.state ≤ moment_of x.value.state
unfolding goes_before
top_moment pods a b x y is_x is_y later =
    let first : item_in pods a ≡ Some (x.name, x.value) = ap (option_map (λ (e : Kept). (e.name, e.value))) is_x in
    let second : item_in pods b ≡ Some (y.name, y.value) = ap (option_map (λ (e : Kept). (e.name, e.value))) is_y in
    late (nat_cmp (moment_of x.value.state) (moment_of y.value.state)) _ (moment_of x.value.state) (moment_of y.value.state) (ranks (moment_of x.value.state) (moment_of y.value.state))
    (sym (λ i. is_lt (option_cmp wait_cmp (first i) (second i))) ∙ later)

-- what a slot has passes a test as its pod does
pub stands_of : (test : State → Bool) (pods : Pods) (s : ℕ) (e : Kept) → entry_in pods s ≡ Some e → stands_in test pods s ≡ test e.value.state
stands_of test pods s e is = ap (λ (o : Option Kept). option_map_or test (option_map (λ (k : Kept). k.value.state) o) false) is

-- a number that is not below a later one is not below a yet later one
leb_later : (u v n : ℕ) → u ≤ v → leb u n ≡ false → leb v n ≡ false
leb_later u v n later h = grind (arith, nat_tests)

-- what backs off longer is not due where the other is not
backoff_later : (now : Moment) (a b : State) → is_backoff a ≡ true → is_backoff b ≡ true → moment_of a ≤ moment_of b → is_due now a ≡ false → is_due now b ≡ false
backoff_later now Active b p q later h = cc
backoff_later now (Backoff u) Active p q later h = cc
backoff_later now (Backoff u) (Backoff v) p q later h = leb_later u.0 v.0 now.0 later h
backoff_later now (Backoff u) (Unschedulable v) p q later h = cc
backoff_later now (Backoff u) (InFlight pass moved) p q later h = cc
backoff_later now (Unschedulable u) b p q later h = cc
backoff_later now (InFlight pass moved) b p q later h = cc

-- nor is what failed later
failed_later : (now : Moment) (a b : State) → is_unschedulable a ≡ true → is_unschedulable b ≡ true → moment_of a ≤ moment_of b → is_due now a ≡ false → is_due now b ≡ false
failed_later now Active b p q later h = cc
failed_later now (Unschedulable u) Active p q later h = cc
failed_later now (Unschedulable u) (Unschedulable v) p q later h = leb_later (u.0 + 300000) (v.0 + 300000) now.0 (omega arith) h
failed_later now (Unschedulable u) (Backoff v) p q later h = cc
failed_later now (Unschedulable u) (InFlight pass moved) p q later h = cc
failed_later now (Backoff u) b p q later h = cc
failed_later now (InFlight pass moved) b p q later h = cc

-- where the top of a heap is not due, none of it is
from_top : (now : Moment) (kind : State → Bool) (pods : Pods) (row : SlotRow) (s : ℕ) (e : Kept) → ((a b : State) → kind a ≡ true → kind b ≡ true → moment_of a ≤ moment_of b → is_due now a ≡ false → is_due now b ≡ false) → Lists kind pods row → IsHeap pods row.slots → (0 < length row.slots → stands_in (is_due now) pods (at row.slots 0) ≡ false) → entry_in pods s ≡ Some e → kind e.value.state ≡ true → is_due now e.value.state ≡ false
from_top now kind pods row s e later lists heap rests is here =
    let inside = lists.all s (stands_of kind pods s e is ∙ here) in
    let some : 0 < length row.slots = omega (arith, inside.within) in
    let root_in : IsIn row.slots (at row.slots 0) = record { place = 0; within = some; is = refl } in
    let root_stands = lists.there (at row.slots 0) root_in in
    let root = kept_in pods (at row.slots 0) (there_if kind (entry_in pods (at row.slots 0)) root_stands) in
    let order : goes_before pods s (at row.slots 0) ≡ false = ap (λ (t : ℕ). goes_before pods t (at row.slots 0)) (sym inside.is) ∙ top pods row.slots inside.place heap inside.within in
    later root.0.value.state e.value.state (sym (stands_of kind pods (at row.slots 0) root.0 root.1) ∙ root_stands) here
    (top_moment pods s (at row.slots 0) e root.0 is root.1 order)
    (sym (stands_of (is_due now) pods (at row.slots 0) root.0 root.1) ∙ rests some)

-- a fact of each state of a pod in a slot
by_entry : (test : State → Bool) (pods : Pods) (s : ℕ) → ((e : Kept) → entry_in pods s ≡ Some e → test e.value.state ≡ false) → (o : Option Kept) → entry_in pods s ≡ o → option_map_or test (option_map (λ (k : Kept). k.value.state) o) false ≡ false
by_entry test pods s each None is = refl
by_entry test pods s each (Some e) is = each e is

-- nothing is due where the tops of both heaps are not
pub none_due : (now : Moment) (pods : Pods) (index : Index) → IsIndex pods index → (0 < length index.backoff.slots → stands_in (is_due now) pods (at index.backoff.slots 0) ≡ false) → (0 < length index.unschedulable.slots → stands_in (is_due now) pods (at index.unschedulable.slots 0) ≡ false) → (s : ℕ) → stands_in (is_due now) pods s ≡ false
none_due now pods index i first second s =
    by_entry (is_due now) pods s (λ e is. by_state e is e.value.state refl) (entry_in pods s) refl
  where
    by_state : (e : Kept) → entry_in pods s ≡ Some e → (state : State) → e.value.state ≡ state → is_due now e.value.state ≡ false
    by_state e is Active h = ap (is_due now) h
    by_state e is (Backoff until) h = from_top now is_backoff pods index.backoff s e (backoff_later now) i.backoff i.by_end first is (ap is_backoff h)
    by_state e is (Unschedulable since) h = from_top now is_unschedulable pods index.unschedulable s e (failed_later now) i.unschedulable i.by_failure second is (ap is_unschedulable h)
    by_state e is (InFlight pass moved) h = ap (is_due now) h

-- a tick leaves what is not due
pub tick_leaves : (now : Moment) (pods : Pods) → ((s : ℕ) → stands_in (is_due now) pods s ≡ false) → (s : ℕ) (e : Kept) → entry_in pods s ≡ Some e → ticked now e.value ≡ e.value
tick_leaves now pods rests s e is = ap (in_state e.value) (tick_stays now e.value.state (sym (stands_of (is_due now) pods s e is) ∙ rests s))

-- a move leaves what has seen one
pub move_leaves : (now : Moment) (pods : Pods) → ((s : ℕ) → stands_in is_unmoved pods s ≡ false) → (s : ℕ) (e : Kept) → entry_in pods s ≡ Some e → moved_on now e.value ≡ e.value
move_leaves now pods rests s e is = ap (in_state e.value) (move_stays now e.value.attempts e.value.state (sym (stands_of is_unmoved pods s e is) ∙ rests s))

-- nothing is in an empty row
pub none_in_row : (kind : State → Bool) (pods : Pods) (row : SlotRow) (s : ℕ) (e : Kept) → Lists kind pods row → length row.slots ≡ 0 → entry_in pods s ≡ Some e → kind e.value.state ≡ true → ⊥
none_in_row kind pods row s e lists empty is here = let inside = lists.all s (stands_of kind pods s e is ∙ here) in omega (arith, inside.within, empty)

-- all have seen a move where both rows are empty
pub none_unmoved : (pods : Pods) (index : Index) → IsIndex pods index → length index.unschedulable.slots ≡ 0 → length index.unmarked.slots ≡ 0 → (s : ℕ) → stands_in is_unmoved pods s ≡ false
none_unmoved pods index i first second s =
    by_entry is_unmoved pods s (λ e is. by_state e is e.value.state refl) (entry_in pods s) refl
  where
    by_state : (e : Kept) → entry_in pods s ≡ Some e → (state : State) → e.value.state ≡ state → is_unmoved e.value.state ≡ false
    by_state e is Active h = ap is_unmoved h
    by_state e is (Backoff until) h = ap is_unmoved h
    by_state e is (Unschedulable since) h = absurd (none_in_row is_unschedulable pods index.unschedulable s e i.unschedulable first is (ap is_unschedulable h))
    by_state e is (InFlight pass true) h = ap is_unmoved h
    by_state e is (InFlight pass false) h = absurd (none_in_row is_unmarked pods index.unmarked s e i.unmarked second is (ap is_unmarked h))

-- a pod that no node would take has not seen a move
waits : (s : State) → is_unschedulable s ≡ true → is_unmoved s ≡ true
waits Active h = cc
waits (Backoff until) h = cc
waits (Unschedulable since) h = refl
waits (InFlight pass moved) h = cc

-- nor has one in flight with no move since
flies : (s : State) → is_unmarked s ≡ true → is_unmoved s ≡ true
flies Active h = cc
flies (Backoff until) h = cc
flies (Unschedulable since) h = cc
flies (InFlight pass true) h = cc
flies (InFlight pass false) h = refl

-- a weaker test
weaker : (kind test : State → Bool) → ((s : State) → kind s ≡ true → test s ≡ true) → (o : Option Kept) → option_map_or kind (option_map (λ (k : Kept). k.value.state) o) false ≡ true → option_map_or test (option_map (λ (k : Kept). k.value.state) o) false ≡ true
weaker kind test less None h = cc
weaker kind test less (Some e) h = less e.value.state h

-- what is in one of the two rows has not seen a move
pub unmoved_in : (pods : Pods) (index : Index) (s : ℕ) → IsIndex pods index → IsIn index.unschedulable.slots s ⊎ IsIn index.unmarked.slots s → stands_in is_unmoved pods s ≡ true
unmoved_in pods index s i somewhere =
    ⊎_elim (λ (here : IsIn index.unschedulable.slots s). weaker is_unschedulable is_unmoved waits (entry_in pods s) (i.unschedulable.there s here))
    (λ (here : IsIn index.unmarked.slots s). weaker is_unmarked is_unmoved flies (entry_in pods s) (i.unmarked.there s here))
    somewhere

-- what follows where there is nothing
pub none_weaker : {P Q : Type 0} → (P → Q) → (o : Option ℕ) → IfNone o P → IfNone o Q
none_weaker f None p = f p
none_weaker f (Some n) p = tt
