-- What becomes of the rows of an index where a slot leaves, changes and enters.
use Rattle.std.proofs.Common.{◌≡◌, ℕ, ◌<◌, ◌≤◌, Bool, true, false, zero, suc, ⊎_elim, List, [], length, replicate, set, arith, refl, sym, ap, ◌∙◌, subst}
use Rattle.std.specs.Prelude.{◌≢◌, Option, None, Some, IsSome, option_map}
use Rattle.std.specs.Option.{option_map_or, option_cmp}
use Rattle.std.specs.Ordering.{is_lt}
use Rattle.std.proofs.lemmas.Bool.{cases_lt}
use Rattle.std.proofs.lemmas.List.{get_or_past, get_or-set_other, length-set, length-replicate}
use Rattle.name_table.specs.Slots.{entry_in}
use Rattle.queued.specs.declared.state.State.{State}
use Rattle.queued.specs.declared.state.State.TheVariants.{Active, Backoff, Unschedulable, InFlight}
use Rattle.queued.specs.declared.state.PassNumber.{PassNumber}
use Rattle.quant.specs.declared.amount.Moment.{Moment}
use Rattle.queue.specs.declared.index.Index.{Index}
use Rattle.queued.specs.Entry.{Entry, is_active, is_backoff, is_unschedulable, is_in_flight}
use Rattle.queue.specs.inside.Row.{SlotRow, at, IsIn, IsWithout, IsWith}
use Rattle.queue.specs.inside.Heap.{Pods, wait_cmp, item_in, goes_before, AllThere, IsHeap}
use Rattle.queue.specs.inside.Index.{state_in, stands_in, is_unmarked, Lists, ListsBut, IsIndex, IsIndexBut}
use Rattle.queue.proofs.Rows.{same_or_not}
use Rattle.queue.proofs.Heaps.{Kept}

-- a test gives one answer
one_answer : (b : Bool) → b ≡ true → b ≡ false → ⊥
one_answer b p q = let both : true ≡ false = sym p ∙ q in cc

-- what stands somewhere is there
pub there_if : (test : State → Bool) (o : Option Kept) → option_map_or test (option_map (λ (e : Kept). e.value.state) o) false ≡ true → IsSome o
there_if test None stands = cc
there_if test (Some e) stands = refl

-- the row that a slot has left
pub left : (test : State → Bool) (pods : Pods) (row new : SlotRow) (s : ℕ) → Lists test pods row → IsWithout row.slots new.slots s → new.room ≡ row.room → ListsBut test pods new s
left test pods row new s lists w room = record {
  room = room ∙ lists.room;
  there = λ t is. lists.there t (w.back t is);
  all = λ t other stands. w.stays t (lists.all t stands) other;
  out = w.gone;
}

-- a row that it was not in
pub not_left : (test : State → Bool) (pods : Pods) (row : SlotRow) (s : ℕ) → Lists test pods row → stands_in test pods s ≡ false → ListsBut test pods row s
not_left test pods row s lists elsewhere = record {
  room = lists.room;
  there = lists.there;
  all = λ t other stands. lists.all t stands;
  out = λ is. one_answer _ (lists.there s is) elsewhere;
}

-- the row that a slot has entered
pub entered : (test : State → Bool) (pods : Pods) (row new : SlotRow) (s : ℕ) → ListsBut test pods row s → IsWith row.slots new.slots s → new.room ≡ row.room → stands_in test pods s ≡ true → Lists test pods new
entered test pods row new s lists w room stands = record {
  room = room ∙ lists.room;
  there = λ t is. ⊎_elim (λ (e : t ≡ s). ap (stands_in test pods) e ∙ stands) (λ (u : t ≢ s). lists.there t (w.back t is u)) (same_or_not t s);
  all = λ t is. ⊎_elim (λ (e : t ≡ s). subst (IsIn new.slots) (sym e) w.there) (λ (u : t ≢ s). w.stays t (lists.all t u is)) (same_or_not t s);
}

-- a row that it has not entered
pub not_entered : (test : State → Bool) (pods : Pods) (row : SlotRow) (s : ℕ) → ListsBut test pods row s → stands_in test pods s ≡ false → Lists test pods row
not_entered test pods row s lists elsewhere = record {
  room = lists.room;
  there = lists.there;
  all = λ t is. ⊎_elim (λ (e : t ≡ s). absurd (one_answer _ (sym (ap (stands_in test pods) e) ∙ is) elsewhere)) (λ (u : t ≢ s). lists.all t u is) (same_or_not t s);
}

-- slots of which at most one has changed
pub record DiffersAt (pods new : Pods) (s : ℕ) : Type 0 where
  pub room : length new ≡ length pods
  pub others : (t : ℕ) → (t ≢ s) → entry_in new t ≡ entry_in pods t

-- a write of one slot
pub written : (pods : Pods) (s : ℕ) (o : Option Kept) → DiffersAt pods (set pods s o) s
written pods s o = record { room = length-set pods s o; others = λ t other. get_or-set_other pods s t o None other }

-- the slots of a row are not the one that is not in it
others_in : (xs : List ℕ) (s t : ℕ) → (IsIn xs s → ⊥) → IsIn xs t → t ≢ s
others_in xs s t out is = λ e. out (subst (IsIn xs) e is)

-- a row that the slot is not in
changed_row : (test : State → Bool) (pods new : Pods) (row : SlotRow) (s : ℕ) → DiffersAt pods new s → ListsBut test pods row s → ListsBut test new row s
changed_row test pods new row s d lists =
    let same : (t : ℕ) → (t ≢ s) → stands_in test new t ≡ stands_in test pods t = λ t other. ap (λ (o : Option Kept). option_map_or test (option_map (λ (e : Kept). e.value.state) o) false) (d.others t other) in
    record {
      room = lists.room ∙ sym d.room;
      there = λ t is. same t (others_in row.slots s t lists.out is) ∙ lists.there t is;
      all = λ t other stands. lists.all t other (sym (same t other) ∙ stands);
      out = lists.out;
    }

-- the comparison of two slots that have not changed
same_order : (pods new : Pods) (s a b : ℕ) → DiffersAt pods new s → (a ≢ s) → (b ≢ s) → goes_before new a b ≡ goes_before pods a b
unfolding goes_before
same_order pods new s a b d p q =
    let first : item_in new a ≡ item_in pods a = ap (option_map (λ (e : Kept). (e.name, e.value))) (d.others a p) in
    let second : item_in new b ≡ item_in pods b = ap (option_map (λ (e : Kept). (e.name, e.value))) (d.others b q) in
    λ i. is_lt (option_cmp wait_cmp (first i) (second i))

-- a heap that the slot is not in
changed_heap : (pods new : Pods) (xs : List ℕ) (s : ℕ) → DiffersAt pods new s → (IsIn xs s → ⊥) → IsHeap pods xs → IsHeap new xs
changed_heap pods new xs s d out heap p k low high within =
    let there : (m : ℕ) → m < length xs → at xs m ≢ s = λ m inside. others_in xs s (at xs m) out record { place = m; within = inside; is = refl } in
    same_order pods new s (at xs k) (at xs p) d (there k within) (there p (omega arith)) ∙ heap p k low high within

-- the index, where the slot that is nowhere has changed
pub changed : (pods new : Pods) (index : Index) (s : ℕ) → DiffersAt pods new s → IsIndexBut pods index s → IsIndexBut new index s
changed pods new index s d but = record {
  active = changed_row _ pods new index.active s d but.active;
  backoff = changed_row _ pods new index.backoff s d but.backoff;
  unschedulable = changed_row _ pods new index.unschedulable s d but.unschedulable;
  unmarked = changed_row _ pods new index.unmarked s d but.unmarked;
  by_order = changed_heap pods new index.active.slots s d but.active.out but.by_order;
  by_end = changed_heap pods new index.backoff.slots s d but.backoff.out but.by_end;
  by_failure = changed_heap pods new index.unschedulable.slots s d but.unschedulable.out but.by_failure;
}

-- the index, where the slot that is nowhere has no pod
pub emptied : (pods : Pods) (index : Index) (s : ℕ) → entry_in pods s ≡ None → IsIndexBut pods index s → IsIndex pods index
emptied pods index s none but =
    let nowhere : (test : State → Bool) → stands_in test pods s ≡ false = λ test. ap (λ (o : Option Kept). option_map_or test (option_map (λ (e : Kept). e.value.state) o) false) none in
    record {
      active = not_entered _ pods index.active s but.active (nowhere _);
      backoff = not_entered _ pods index.backoff s but.backoff (nowhere _);
      unschedulable = not_entered _ pods index.unschedulable s but.unschedulable (nowhere _);
      unmarked = not_entered _ pods index.unmarked s but.unmarked (nowhere _);
      by_order = but.by_order;
      by_end = but.by_end;
      by_failure = but.by_failure;
    }

-- a test of where the pod in a slot stands
pub stands_as : (test : State → Bool) (pods : Pods) (s : ℕ) (state kind : State) → state_in pods s ≡ Some state → state ≡ kind → stands_in test pods s ≡ test kind
stands_as test pods s state kind there is = ap (λ (o : Option State). option_map_or test o false) (there ∙ ap (λ (t : State). Some t) is)

-- the state of what a slot has
pub state_of : (o : Option Kept) (value : Entry) → option_map (λ (e : Kept). e.value) o ≡ Some value → option_map (λ (e : Kept). e.value.state) o ≡ Some value.state
state_of None value is = cc
state_of (Some e) value is = let same : e.value ≡ value = cc in ap (λ (v : Entry). Some v.state) same

-- where its state is known, there is a pod
pub filled : (o : Option Kept) (state : State) → option_map (λ (e : Kept). e.value.state) o ≡ Some state → IsSome o
filled None state is = cc
filled (Some e) state is = refl

-- a slot that has a pod is one of the slots
pub slot_there : (pods : Pods) (s : ℕ) (state : State) → state_in pods s ≡ Some state → s < length pods
slot_there pods s state there =
    ⊎_elim (λ (low : s < length pods). low)
    (λ (high : length pods ≤ s).
    let none : state_in pods s ≡ None = ap (option_map (λ (e : Kept). e.value.state)) (get_or_past pods s None high) in
    let both : None ≡ Some state = sym none ∙ there in
    absurd (cc))
    (cases_lt s (length pods))

-- there is a pod in each slot of a row
pub all_there : (test : State → Bool) (pods : Pods) (row : SlotRow) → ((t : ℕ) → IsIn row.slots t → stands_in test pods t ≡ true) → AllThere pods row.slots
all_there test pods row there = λ t is. there_if test (entry_in pods t) (there t is)

-- one that isn't in flight doesn't stand there
pub grounded : (state kind : State) → state ≡ kind → is_in_flight kind ≡ false → is_in_flight state ≡ true → ⊥
grounded state kind is rests flies = let both : true ≡ false = sym flies ∙ ap is_in_flight is ∙ rests in cc

-- an active slot leaves
pub leaves_active : (pods : Pods) (index : Index) (new : SlotRow) (s : ℕ) (state : State) → IsIndex pods index → state_in pods s ≡ Some state → state ≡ Active → IsWithout index.active.slots new.slots s → new.room ≡ index.active.room → IsHeap pods new.slots → IsIndexBut pods (record index { active = new }) s
leaves_active pods index new s state was there is w room heap = record {
  active = left is_active pods index.active new s was.active w room;
  backoff = not_left is_backoff pods index.backoff s was.backoff (stands_as is_backoff pods s state _ there is);
  unschedulable = not_left is_unschedulable pods index.unschedulable s was.unschedulable (stands_as is_unschedulable pods s state _ there is);
  unmarked = not_left is_unmarked pods index.unmarked s was.unmarked (stands_as is_unmarked pods s state _ there is);
  by_order = heap;
  by_end = was.by_end;
  by_failure = was.by_failure;
}

-- one that backs off leaves
pub leaves_backoff : (pods : Pods) (index : Index) (new : SlotRow) (s : ℕ) (state : State) (until : Moment) → IsIndex pods index → state_in pods s ≡ Some state → state ≡ Backoff until → IsWithout index.backoff.slots new.slots s → new.room ≡ index.backoff.room → IsHeap pods new.slots → IsIndexBut pods (record index { backoff = new }) s
leaves_backoff pods index new s state until was there is w room heap = record {
  active = not_left is_active pods index.active s was.active (stands_as is_active pods s state _ there is);
  backoff = left is_backoff pods index.backoff new s was.backoff w room;
  unschedulable = not_left is_unschedulable pods index.unschedulable s was.unschedulable (stands_as is_unschedulable pods s state _ there is);
  unmarked = not_left is_unmarked pods index.unmarked s was.unmarked (stands_as is_unmarked pods s state _ there is);
  by_order = was.by_order;
  by_end = heap;
  by_failure = was.by_failure;
}

-- one that no node would take leaves
pub leaves_unschedulable : (pods : Pods) (index : Index) (new : SlotRow) (s : ℕ) (state : State) (since : Moment) → IsIndex pods index → state_in pods s ≡ Some state → state ≡ Unschedulable since → IsWithout index.unschedulable.slots new.slots s → new.room ≡ index.unschedulable.room → IsHeap pods new.slots → IsIndexBut pods (record index { unschedulable = new }) s
leaves_unschedulable pods index new s state since was there is w room heap = record {
  active = not_left is_active pods index.active s was.active (stands_as is_active pods s state _ there is);
  backoff = not_left is_backoff pods index.backoff s was.backoff (stands_as is_backoff pods s state _ there is);
  unschedulable = left is_unschedulable pods index.unschedulable new s was.unschedulable w room;
  unmarked = not_left is_unmarked pods index.unmarked s was.unmarked (stands_as is_unmarked pods s state _ there is);
  by_order = was.by_order;
  by_end = was.by_end;
  by_failure = heap;
}

-- one in flight, with no move since leaves
pub leaves_unmarked : (pods : Pods) (index : Index) (new : SlotRow) (s : ℕ) (state : State) (pass : PassNumber) → IsIndex pods index → state_in pods s ≡ Some state → state ≡ InFlight pass false → IsWithout index.unmarked.slots new.slots s → new.room ≡ index.unmarked.room → IsIndexBut pods (record index { unmarked = new }) s
leaves_unmarked pods index new s state pass was there is w room = record {
  active = not_left is_active pods index.active s was.active (stands_as is_active pods s state _ there is);
  backoff = not_left is_backoff pods index.backoff s was.backoff (stands_as is_backoff pods s state _ there is);
  unschedulable = not_left is_unschedulable pods index.unschedulable s was.unschedulable (stands_as is_unschedulable pods s state _ there is);
  unmarked = left is_unmarked pods index.unmarked new s was.unmarked w room;
  by_order = was.by_order;
  by_end = was.by_end;
  by_failure = was.by_failure;
}

-- one in flight, with a move since leaves
pub leaves_marked : (pods : Pods) (index : Index) (s : ℕ) (state : State) (pass : PassNumber) → IsIndex pods index → state_in pods s ≡ Some state → state ≡ InFlight pass true → IsIndexBut pods index s
leaves_marked pods index s state pass was there is = record {
  active = not_left is_active pods index.active s was.active (stands_as is_active pods s state _ there is);
  backoff = not_left is_backoff pods index.backoff s was.backoff (stands_as is_backoff pods s state _ there is);
  unschedulable = not_left is_unschedulable pods index.unschedulable s was.unschedulable (stands_as is_unschedulable pods s state _ there is);
  unmarked = not_left is_unmarked pods index.unmarked s was.unmarked (stands_as is_unmarked pods s state _ there is);
  by_order = was.by_order;
  by_end = was.by_end;
  by_failure = was.by_failure;
}

-- an active slot enters
pub enters_active : (pods : Pods) (index : Index) (new : SlotRow) (s : ℕ) (state : State) → IsIndexBut pods index s → state_in pods s ≡ Some state → state ≡ Active → IsWith index.active.slots new.slots s → new.room ≡ index.active.room → IsHeap pods new.slots → IsIndex pods (record index { active = new })
enters_active pods index new s state was there is w room heap = record {
  active = entered is_active pods index.active new s was.active w room (stands_as is_active pods s state _ there is);
  backoff = not_entered is_backoff pods index.backoff s was.backoff (stands_as is_backoff pods s state _ there is);
  unschedulable = not_entered is_unschedulable pods index.unschedulable s was.unschedulable (stands_as is_unschedulable pods s state _ there is);
  unmarked = not_entered is_unmarked pods index.unmarked s was.unmarked (stands_as is_unmarked pods s state _ there is);
  by_order = heap;
  by_end = was.by_end;
  by_failure = was.by_failure;
}

-- one that backs off enters
pub enters_backoff : (pods : Pods) (index : Index) (new : SlotRow) (s : ℕ) (state : State) (until : Moment) → IsIndexBut pods index s → state_in pods s ≡ Some state → state ≡ Backoff until → IsWith index.backoff.slots new.slots s → new.room ≡ index.backoff.room → IsHeap pods new.slots → IsIndex pods (record index { backoff = new })
enters_backoff pods index new s state until was there is w room heap = record {
  active = not_entered is_active pods index.active s was.active (stands_as is_active pods s state _ there is);
  backoff = entered is_backoff pods index.backoff new s was.backoff w room (stands_as is_backoff pods s state _ there is);
  unschedulable = not_entered is_unschedulable pods index.unschedulable s was.unschedulable (stands_as is_unschedulable pods s state _ there is);
  unmarked = not_entered is_unmarked pods index.unmarked s was.unmarked (stands_as is_unmarked pods s state _ there is);
  by_order = was.by_order;
  by_end = heap;
  by_failure = was.by_failure;
}

-- one that no node would take enters
pub enters_unschedulable : (pods : Pods) (index : Index) (new : SlotRow) (s : ℕ) (state : State) (since : Moment) → IsIndexBut pods index s → state_in pods s ≡ Some state → state ≡ Unschedulable since → IsWith index.unschedulable.slots new.slots s → new.room ≡ index.unschedulable.room → IsHeap pods new.slots → IsIndex pods (record index { unschedulable = new })
enters_unschedulable pods index new s state since was there is w room heap = record {
  active = not_entered is_active pods index.active s was.active (stands_as is_active pods s state _ there is);
  backoff = not_entered is_backoff pods index.backoff s was.backoff (stands_as is_backoff pods s state _ there is);
  unschedulable = entered is_unschedulable pods index.unschedulable new s was.unschedulable w room (stands_as is_unschedulable pods s state _ there is);
  unmarked = not_entered is_unmarked pods index.unmarked s was.unmarked (stands_as is_unmarked pods s state _ there is);
  by_order = was.by_order;
  by_end = was.by_end;
  by_failure = heap;
}

-- one in flight, with no move since enters
pub enters_unmarked : (pods : Pods) (index : Index) (new : SlotRow) (s : ℕ) (state : State) (pass : PassNumber) → IsIndexBut pods index s → state_in pods s ≡ Some state → state ≡ InFlight pass false → IsWith index.unmarked.slots new.slots s → new.room ≡ index.unmarked.room → IsIndex pods (record index { unmarked = new })
enters_unmarked pods index new s state pass was there is w room = record {
  active = not_entered is_active pods index.active s was.active (stands_as is_active pods s state _ there is);
  backoff = not_entered is_backoff pods index.backoff s was.backoff (stands_as is_backoff pods s state _ there is);
  unschedulable = not_entered is_unschedulable pods index.unschedulable s was.unschedulable (stands_as is_unschedulable pods s state _ there is);
  unmarked = entered is_unmarked pods index.unmarked new s was.unmarked w room (stands_as is_unmarked pods s state _ there is);
  by_order = was.by_order;
  by_end = was.by_end;
  by_failure = was.by_failure;
}

-- one in flight, with a move since enters
pub enters_marked : (pods : Pods) (index : Index) (s : ℕ) (state : State) (pass : PassNumber) → IsIndexBut pods index s → state_in pods s ≡ Some state → state ≡ InFlight pass true → IsIndex pods index
enters_marked pods index s state pass was there is = record {
  active = not_entered is_active pods index.active s was.active (stands_as is_active pods s state _ there is);
  backoff = not_entered is_backoff pods index.backoff s was.backoff (stands_as is_backoff pods s state _ there is);
  unschedulable = not_entered is_unschedulable pods index.unschedulable s was.unschedulable (stands_as is_unschedulable pods s state _ there is);
  unmarked = not_entered is_unmarked pods index.unmarked s was.unmarked (stands_as is_unmarked pods s state _ there is);
  by_order = was.by_order;
  by_end = was.by_end;
  by_failure = was.by_failure;
}

-- a row of nothing, where no slot has a pod
empty_row : (test : State → Bool) (room : ℕ) (row : SlotRow) → row ≡ record { room = room; slots = [] } → Lists test (replicate room None) row
empty_row test room row is = subst (Lists test (replicate room None)) (sym is) record {
  room = sym (length-replicate room None);
  there = λ t there. absurd (omega (arith, there.within));
  all = λ t stands. absurd (one_answer _ stands (ap (λ (o : Option Kept). option_map_or test (option_map (λ (e : Kept). e.value.state) o) false) (none_in room t)));
}
  where
    none_in : (room t : ℕ) → entry_in {X = Entry} (replicate room None) t ≡ None
    none_in zero t = refl
    none_in (suc room) zero = refl
    none_in (suc room) (suc t) = none_in room t

-- and no heap of it has a child
empty_heap : (pods : Pods) (room : ℕ) (row : SlotRow) → row ≡ record { room = room; slots = [] } → IsHeap pods row.slots
empty_heap pods room row is = subst (λ (r : SlotRow). IsHeap pods r.slots) (sym is) (λ p k low high within. absurd (omega arith))

-- the index of slots that have no pod
pub empty_index : (room : ℕ) (a b u m : SlotRow) → a ≡ record { room = room; slots = [] } → b ≡ record { room = room; slots = [] } → u ≡ record { room = room; slots = [] } → m ≡ record { room = room; slots = [] } → IsIndex (replicate room None) record { active = a; backoff = b; unschedulable = u; unmarked = m }
empty_index room a b u m is_a is_b is_u is_m = record {
  active = empty_row _ room a is_a;
  backoff = empty_row _ room b is_b;
  unschedulable = empty_row _ room u is_u;
  unmarked = empty_row _ room m is_m;
  by_order = empty_heap _ room a is_a;
  by_end = empty_heap _ room b is_b;
  by_failure = empty_heap _ room u is_u;
}

-- a slot that has no pod is nowhere
pub free_slot : (pods : Pods) (index : Index) (s : ℕ) → entry_in pods s ≡ None → IsIndex pods index → IsIndexBut pods index s
free_slot pods index s none i =
    let nowhere : (test : State → Bool) → stands_in test pods s ≡ false = λ test. ap (λ (o : Option Kept). option_map_or test (option_map (λ (e : Kept). e.value.state) o) false) none in
    record {
      active = not_left _ pods index.active s i.active (nowhere _);
      backoff = not_left _ pods index.backoff s i.backoff (nowhere _);
      unschedulable = not_left _ pods index.unschedulable s i.unschedulable (nowhere _);
      unmarked = not_left _ pods index.unmarked s i.unmarked (nowhere _);
      by_order = i.by_order;
      by_end = i.by_end;
      by_failure = i.by_failure;
    }
