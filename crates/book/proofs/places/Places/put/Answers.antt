use Rattle.std.proofs.Common.{◌≡◌, ◌+◌, ◌-◌, true, false, length, Some, is_some, refl, ap, sym, subst, ◌∙◌, arith}
use Rattle.std.specs.FinMap as fin
use Rattle.std.proofs.lemmas.Bool.{leb-false}
use Rattle.std.proofs.lemmas.List.{length-map}
use Rattle.name_table.specs.Slots.{map_of}
use Rattle.book.specs.declared.place.Place.{Place}
use Rattle.book.specs.inside.Finishes.{finish_in}
use Rattle.book.specs.inside.Tables.{Held, IsShown}
use Rattle.book.specs.Tables.{is_full_for}
use Rattle.book.specs.Used.{used}
use Rattle.book.proofs.FinishLemmas.{slot_timed, timed_put, timed_set}
use Rattle.book.proofs.RowLemmas.{no_gap, in_gap}
use Rattle.book.proofs.SumLemmas.{get_removed, insert_over}
use Rattle.book.proofs.TableLemmas.{held}
use Rattle.book.proofs.TotalLemmas.{counted_more, counted_less, old_within, old_alone, most_used, assumed_le, assumed_less, assumed_one, each_less, each_more, len_less, alike_less, alike_more, used_apart, used_more}
use Rattle.book.proofs.places.Places.put.Goals as goal

-- the old place is in its node's total
pub take-slot_before-requires-clause-within : goal.take-slot_before-requires-clause-within
take-slot_before-requires-clause-within c =
    let old = c.value_at-old.result.now in
    let had = c.value_at-old.ensures.by_name c.args.uid c.in-Some.ensures.name in
    old_within (map_of c.self.inside.by_uid) c.args.uid old had (map_of c.self.inside.totals) (c.self.invariant.counted.each old.node)

pub take-slot_before-requires-clause-last : goal.take-slot_before-requires-clause-last
take-slot_before-requires-clause-last c =
    let old = c.value_at-old.result.now in
    let had = c.value_at-old.ensures.by_name c.args.uid c.in-Some.ensures.name in
    old_alone (map_of c.self.inside.by_uid) c.args.uid old had (map_of c.self.inside.totals) (c.self.invariant.counted.each old.node)

pub overflow_sub-self : goal.overflow_sub-self
overflow_sub-self c =
    let old = c.value_at-old.result.now in
    let had = c.value_at-old.ensures.by_name c.args.uid c.in-Some.ensures.name in
    omega (arith, assumed_less (map_of c.self.inside.by_uid) c.args.uid old had, c.self.invariant.counted.assumed, c.assumed_count.ensures)

pub add-slot_now-requires-clause-within : goal.add-slot_now-requires-clause-within
add-slot_now-requires-clause-within c =
    let m = map_of c.self.inside.by_uid in
    let old = c.value_at-old.result.now in
    let had = c.value_at-old.ensures.by_name c.args.uid c.in-Some.ensures.name in
    most_used (fin.remove m c.args.uid) _ c.args.place.node
    (each_less m c.args.uid old had (map_of c.self.inside.totals) (map_of c.take-slot_before.new.totals) c.self.invariant.counted.each c.take-slot_before.ensures.each c.args.place.node)
    (omega (arith, len_less m c.args.uid old had, c.self.invariant.counted.few, c.self.invariant.counted.small))

pub overflow_add-self : goal.overflow_add-self
overflow_add-self c = omega (arith, assumed_le (map_of c.self.inside.by_uid), c.self.invariant.counted.assumed, c.self.invariant.counted.few, c.self.invariant.counted.small, assumed_one c.args.place.status, c.assumed_count-in-Some.ensures)

-- one place less is counted, so that there is room for one more
pub take-slot_before-requires-clause-in_use : goal.take-slot_before-requires-clause-in_use
take-slot_before-requires-clause-in_use c = c.self.invariant.counted.in_use

pub add-slot_now-requires-clause-room : goal.add-slot_now-requires-clause-room
add-slot_now-requires-clause-room c =
    omega (arith, c.take-slot_before.ensures.pods, c.take-slot_before.ensures.room, c.self.invariant.counted.pods, c.self.invariant.counted.few, c.self.invariant.counted.same)

pub add-slot_now-requires-clause-small : goal.add-slot_now-requires-clause-small
add-slot_now-requires-clause-small c = omega (arith, c.take-slot_before.ensures.room, c.self.invariant.counted.same, c.self.invariant.counted.small)

pub add-slot_now-requires-clause-in_use : goal.add-slot_now-requires-clause-in_use
add-slot_now-requires-clause-in_use c = c.take-slot_before.ensures.in_use

-- the pod had a place
pub invariant_of-self : goal.invariant_of-self
invariant_of-self c =
    let m = map_of c.self.inside.by_uid in
    let most = length c.self.inside.by_uid in
    let old = c.value_at-old.result.now in
    let had = c.value_at-old.ensures.by_name c.args.uid c.in-Some.ensures.name in
    let less = counted_less m most (map_of c.self.inside.totals) (length c.self.inside.totals) c.self.inside.assumed c.self.invariant.counted
    (fin.remove m c.args.uid) most (map_of c.take-slot_before.new.totals) (length c.take-slot_before.new.totals) (c.self.inside.assumed - c.assumed_count.result) refl c.take-slot_before.ensures.room c.take-slot_before.ensures.in_use c.args.uid
    old refl had c.take-slot_before.ensures.each c.take-slot_before.ensures.pods (ap (λ n. c.self.inside.assumed - n) c.assumed_count.ensures) in
    record {
      counted = counted_more (fin.remove m c.args.uid) most (map_of c.take-slot_before.new.totals) (length c.take-slot_before.new.totals) (c.self.inside.assumed - c.assumed_count.result) less
          _ _ _ _ _ c.replace_at.ensures.room c.add-slot_now.ensures.room c.add-slot_now.ensures.in_use c.args.uid
          c.args.place (c.replace_at.ensures.map c.args.uid c.in-Some.ensures.name ∙ sym (insert_over m c.args.uid c.args.place)) (get_removed m c.args.uid)
          (omega (arith, len_less m c.args.uid old had, c.self.invariant.counted.few)) c.add-slot_now.ensures.each c.add-slot_now.ensures.pods
          (ap (λ n. c.self.inside.assumed - c.assumed_count.result + n) c.assumed_count-in-Some.ensures);
      timed = timed_put c.self.inside.by_uid c.replace_at.new.self c.self.inside.finishes c.set.new.self c.in-Some.slot c.finish-finish.result c.args.place c.in-Some.ensures.filled c.self.invariant.timed c.replace_at.ensures.slots c.set.ensures c.finish-finish.ensures;
      room = omega (arith, c.self.invariant.room, c.replace_at.ensures.room);
      gathered = tt;
    }

pub add-slot_now-requires-in-None-clause-within : goal.add-slot_now-requires-in-None-clause-within
add-slot_now-requires-in-None-clause-within c =
    most_used (map_of c.self.inside.by_uid) _ c.args.place.node (c.self.invariant.counted.each c.args.place.node) (omega (arith, c.self.invariant.counted.few, c.self.invariant.counted.small))

pub add-slot_now-requires-in-None-clause-room : goal.add-slot_now-requires-in-None-clause-room
add-slot_now-requires-in-None-clause-room c =
    let room = leb-false (length c.self.inside.by_uid) (fin.len (map_of c.self.inside.by_uid)) (sym c.is_full.ensures.full ∙ c.if-is_full.false) in
    omega (arith, room, c.self.invariant.counted.pods, c.self.invariant.counted.same)

pub add-slot_now-requires-in-None-clause-small : goal.add-slot_now-requires-in-None-clause-small
add-slot_now-requires-in-None-clause-small c = omega (arith, c.self.invariant.counted.same, c.self.invariant.counted.small)

pub add-slot_now-requires-in-None-clause-in_use : goal.add-slot_now-requires-in-None-clause-in_use
add-slot_now-requires-in-None-clause-in_use c = c.self.invariant.counted.in_use

pub insert-slot-requires-clause-new : goal.insert-slot-requires-clause-new
insert-slot-requires-clause-new c = c.in-None.ensures.value

pub insert-slot-requires-clause-room : goal.insert-slot-requires-clause-room
insert-slot-requires-clause-room c = leb-false (length c.self.inside.by_uid) (fin.len (map_of c.self.inside.by_uid)) (sym c.is_full.ensures.full ∙ c.if-is_full.false)

pub overflow_add-self-in-None : goal.overflow_add-self-in-None
overflow_add-self-in-None c = omega (arith, assumed_le (map_of c.self.inside.by_uid), c.self.invariant.counted.assumed, c.self.invariant.counted.few, c.self.invariant.counted.small, assumed_one c.args.place.status, c.assumed_count-in-None.ensures)

-- the pod had no place
pub invariant_of-self-in-None : goal.invariant_of-self-in-None
invariant_of-self-in-None c =
    record {
      counted = counted_more (map_of c.self.inside.by_uid) (length c.self.inside.by_uid) (map_of c.self.inside.totals) (length c.self.inside.totals) c.self.inside.assumed c.self.invariant.counted
          _ _ _ _ _ c.insert-slot.ensures.room c.add-slot_now-in-None.ensures.room c.add-slot_now-in-None.ensures.in_use c.args.uid
          c.args.place c.insert-slot.ensures.map c.in-None.ensures.value (let room = leb-false (length c.self.inside.by_uid) (fin.len (map_of c.self.inside.by_uid)) (sym c.is_full.ensures.full ∙ c.if-is_full.false) in omega (arith, room)) c.add-slot_now-in-None.ensures.each c.add-slot_now-in-None.ensures.pods
          (ap (λ n. c.self.inside.assumed + n) c.assumed_count-in-None.ensures);
      timed = timed_set c.self.inside.by_uid c.insert-slot.new.self c.self.inside.finishes c.set-in-None.new.self c.insert-slot.result c.finish-finish.result (Some (record { name = c.args.uid; value = c.args.place })) c.self.invariant.timed c.insert-slot.ensures.slots c.set-in-None.ensures c.finish-finish.ensures;
      room = omega (arith, c.self.invariant.room, c.insert-slot.ensures.room);
      gathered = tt;
    }

-- the slot has a millisecond
pub set-requires : goal.set-requires
set-requires c = slot_timed c.self.inside.by_uid c.self.inside.finishes c.in-Some.slot c.self.invariant.timed c.in-Some.ensures.filled

pub set-requires-in-None : goal.set-requires-in-None
set-requires-in-None c = let many = ap length c.self.invariant.timed in omega (arith, many, length-map c.self.inside.by_uid finish_in, c.insert-slot.ensures.a_slot)

-- what is used of two nodes changes: of the old place's, and then of the new one's
pub returns-in-Some-clause-shown : goal.returns-in-Some-clause-shown
returns-in-Some-clause-shown c shown =
    let m = map_of c.self.inside.by_uid in
    let old = c.value_at-old.result.now in
    let place = c.args.place in
    let had = c.value_at-old.ensures.by_name c.args.uid c.in-Some.ensures.name in
    let less = fin.remove m c.args.uid in
    let each_left = each_less m c.args.uid old had (map_of c.self.inside.totals) (map_of c.take-slot_before.new.totals) c.self.invariant.counted.each c.take-slot_before.ensures.each in
    let each_now = each_more less c.args.uid place (get_removed m c.args.uid) (map_of c.take-slot_before.new.totals) (map_of c.add-slot_now.new.totals) each_left c.add-slot_now.ensures.each in
    let before = subst (λ (t : Held Place). IsShown (used t.map) c.args.nodes.now) (sym c.self.view_is) shown in
    let left = c.keep.ensures.shown (used m) (used less) before (c.take-slot_before.ensures.now ∙ each_left old.node) (alike_less (used m) (used less) old.node old.request (λ q. sym (used_apart m c.args.uid old had q))) in
    let after = c.keep-in-Some.ensures.shown (used less) (used (fin.insert less c.args.uid place)) left (c.add-slot_now.ensures.now ∙ each_now place.node)
    (alike_more (used less) (used (fin.insert less c.args.uid place)) place.node place.request (used_more less c.args.uid place (get_removed m c.args.uid))) in
    subst (λ n. IsShown (used n) c.keep-in-Some.new.self) (insert_over m c.args.uid place ∙ sym (c.replace_at.ensures.map c.args.uid c.in-Some.ensures.name)) after

-- what is used of the new place's node changes
pub returns-else-is_full-clause-shown : goal.returns-else-is_full-clause-shown
returns-else-is_full-clause-shown c shown =
    let m = map_of c.self.inside.by_uid in
    let place = c.args.place in
    let none = c.in-None.ensures.value in
    let each_now = each_more m c.args.uid place none (map_of c.self.inside.totals) (map_of c.add-slot_now-in-None.new.totals) c.self.invariant.counted.each c.add-slot_now-in-None.ensures.each in
    let before = subst (λ (t : Held Place). IsShown (used t.map) c.args.nodes.now) (sym c.self.view_is) shown in
    let after = c.keep-in-None.ensures.shown (used m) (used (fin.insert m c.args.uid place)) before (c.add-slot_now-in-None.ensures.now ∙ each_now place.node)
    (alike_more (used m) (used (fin.insert m c.args.uid place)) place.node place.request (used_more m c.args.uid place none)) in
    subst (λ n. IsShown (used n) c.keep-in-None.new.self) (sym c.insert-slot.ensures.map) after

-- there is no room for the pod, and nothing changes
pub returns-then-is_full : goal.returns-then-is_full
returns-then-is_full c = record {
  nodes = (refl, refl);
  shown = λ shown. shown;
  put = tt;
  room = tt;
  full = subst (λ (t : Held Place). is_full_for t.map t.room c.args.uid ≡ true) c.self.view_is (in_gap _ _ true (ap is_some c.in-None.ensures.value) (sym c.is_full.ensures.full ∙ c.if-is_full.true));
  why = refl;
  unchanged = refl;
}

-- the place is put, and the rows stay
pub returns-in-Some-clause-nodes : goal.returns-in-Some-clause-nodes
returns-in-Some-clause-nodes c = (c.keep-in-Some.ensures.map ∙ c.keep.ensures.map, c.keep-in-Some.ensures.room ∙ c.keep.ensures.room)

pub returns-in-Some-clause-put : goal.returns-in-Some-clause-put
returns-in-Some-clause-put c =
    (λ i. held (c.replace_at.ensures.map c.args.uid c.in-Some.ensures.name i) (c.replace_at.ensures.room i))
    ∙ ap {A = Held Place} {B = Held Place} (λ t. record t { map = fin.insert t.map c.args.uid c.args.place }) c.self.view_is

pub returns-in-Some-clause-room : goal.returns-in-Some-clause-room
returns-in-Some-clause-room c =
    subst (λ (t : Held Place). is_full_for t.map t.room c.args.uid ≡ false) c.self.view_is (no_gap _ _ (ap is_some (c.value_at-old.ensures.by_name c.args.uid c.in-Some.ensures.name)))

pub returns-else-is_full-clause-nodes : goal.returns-else-is_full-clause-nodes
returns-else-is_full-clause-nodes c = (c.keep-in-None.ensures.map, c.keep-in-None.ensures.room)

pub returns-else-is_full-clause-put : goal.returns-else-is_full-clause-put
returns-else-is_full-clause-put c =
    (λ i. held (c.insert-slot.ensures.map i) (c.insert-slot.ensures.room i))
    ∙ ap {A = Held Place} {B = Held Place} (λ t. record t { map = fin.insert t.map c.args.uid c.args.place }) c.self.view_is

pub returns-else-is_full-clause-room : goal.returns-else-is_full-clause-room
returns-else-is_full-clause-room c =
    subst (λ (t : Held Place). is_full_for t.map t.room c.args.uid ≡ false) c.self.view_is (in_gap _ _ false (ap is_some c.in-None.ensures.value) (sym c.is_full.ensures.full ∙ c.if-is_full.false))

pub replace_at-requires : goal.replace_at-requires
replace_at-requires c = c.in-Some.ensures.filled
