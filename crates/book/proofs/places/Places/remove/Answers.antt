use Rattle.std.proofs.Common.{◌≡◌, ◌-◌, length, Some, None, refl, ap, sym, subst, ◌∙◌, arith}
use Rattle.std.proofs.lemmas.Bool.{true≢false}
use Rattle.std.proofs.lemmas.Option.{same_Some}
use Rattle.std.specs.Option.{option_map}
use Rattle.std.specs.FinMap as fin
use Rattle.name_table.specs.declared.entry.Entry.{Entry}
use Rattle.name_table.specs.Slots.{map_of}
use Rattle.book.specs.inside.Tables.{Held, IsShown}
use Rattle.book.specs.Used.{used}
use Rattle.book.specs.declared.place.Place.{Place}
use Rattle.book.proofs.FinishLemmas.{slot_timed, timed_set, gathered_any}
use Rattle.book.proofs.SumLemmas.{remove_absent}
use Rattle.book.proofs.TableLemmas.{held}
use Rattle.book.proofs.TotalLemmas.{counted_less, old_within, old_alone, assumed_less, each_less, alike_less, used_apart}
use Rattle.book.proofs.places.Places.remove.Goals as goal

-- the pod had no place
pub returns-in_default-clause-gone : goal.returns-in_default-clause-gone
returns-in_default-clause-gone c =
    let none = c.in_default.ensures.value in
    let same = sym (remove_absent (map_of c.self.inside.by_uid) c.args.uid.now none) in
    sym c.self.view_is ∙ (λ i. held (same i) (length c.self.inside.by_uid)) ∙ ap {A = Held Place} {B = Held Place} (λ t. record t { map = fin.remove t.map c.args.uid.now }) c.self.view_is

-- the slot has a millisecond
pub set-requires : goal.set-requires
set-requires c = slot_timed c.self.inside.by_uid c.self.inside.finishes c.in-Some.slot c.self.invariant.timed c.in-Some.ensures.filled

-- the old place is in its node's total
pub take-slot_before-requires-clause-within : goal.take-slot_before-requires-clause-within
take-slot_before-requires-clause-within c =
    let had : fin.get (map_of c.self.inside.by_uid) c.args.uid.now ≡ Some c.remove_at-old.result.value = c.in-Some.ensures.value ∙ ap (option_map (λ (e : Entry Place). e.value)) c.remove_at-old.ensures.entry in
    old_within (map_of c.self.inside.by_uid) c.args.uid.now c.remove_at-old.result.value had (map_of c.self.inside.totals) (c.self.invariant.counted.each c.remove_at-old.result.value.node)

pub take-slot_before-requires-clause-last : goal.take-slot_before-requires-clause-last
take-slot_before-requires-clause-last c =
    let had : fin.get (map_of c.self.inside.by_uid) c.args.uid.now ≡ Some c.remove_at-old.result.value = c.in-Some.ensures.value ∙ ap (option_map (λ (e : Entry Place). e.value)) c.remove_at-old.ensures.entry in
    old_alone (map_of c.self.inside.by_uid) c.args.uid.now c.remove_at-old.result.value had (map_of c.self.inside.totals) (c.self.invariant.counted.each c.remove_at-old.result.value.node)

pub overflow_sub-self : goal.overflow_sub-self
overflow_sub-self c =
    let had : fin.get (map_of c.self.inside.by_uid) c.args.uid.now ≡ Some c.remove_at-old.result.value = c.in-Some.ensures.value ∙ ap (option_map (λ (e : Entry Place). e.value)) c.remove_at-old.ensures.entry in
    omega (arith, assumed_less (map_of c.self.inside.by_uid) c.args.uid.now c.remove_at-old.result.value had, c.self.invariant.counted.assumed, c.assumed_count.ensures)

-- the pod had a place
pub invariant_of-self : goal.invariant_of-self
invariant_of-self c =
    let had : fin.get (map_of c.self.inside.by_uid) c.args.uid.now ≡ Some c.remove_at-old.result.value = c.in-Some.ensures.value ∙ ap (option_map (λ (e : Entry Place). e.value)) c.remove_at-old.ensures.entry in
    let named : Some c.remove_at-old.result.name ≡ Some c.args.uid.now = sym (ap (option_map (λ (e : Entry Place). e.name)) c.remove_at-old.ensures.entry) ∙ c.in-Some.ensures.name in
    let name : c.remove_at-old.result.name ≡ c.args.uid.now = same_Some _ _ named in
    let gone = c.remove_at-old.ensures.map ∙ ap (fin.remove (map_of c.self.inside.by_uid)) name in
    record {
      counted = counted_less (map_of c.self.inside.by_uid) (length c.self.inside.by_uid) (map_of c.self.inside.totals) (length c.self.inside.totals) c.self.inside.assumed c.self.invariant.counted
          _ _ _ _ _ c.remove_at-old.ensures.room c.take-slot_before.ensures.room c.take-slot_before.ensures.in_use c.args.uid.now
          c.remove_at-old.result.value gone had c.take-slot_before.ensures.each c.take-slot_before.ensures.pods (ap (λ n. c.self.inside.assumed - n) c.assumed_count.ensures);
      timed = timed_set c.self.inside.by_uid c.remove_at-old.new.self c.self.inside.finishes c.set.new.self c.in-Some.slot _ None c.self.invariant.timed c.remove_at-old.ensures.slots c.set.ensures refl;
      room = omega (arith, c.self.invariant.room, c.remove_at-old.ensures.room);
      gathered = gathered_any (map_of c.self.inside.by_uid) _ c.self.inside.overdue.limit c.self.inside.overdue.names.items c.self.inside.overdue.given c.args.uid.now c.self.invariant.gathered gone;
    }

pub returns-clause-gone : goal.returns-clause-gone
returns-clause-gone c =
    let named : Some c.remove_at-old.result.name ≡ Some c.args.uid.now = sym (ap (option_map (λ (e : Entry Place). e.name)) c.remove_at-old.ensures.entry) ∙ c.in-Some.ensures.name in
    let name : c.remove_at-old.result.name ≡ c.args.uid.now = same_Some _ _ named in
    let gone = c.remove_at-old.ensures.map ∙ ap (fin.remove (map_of c.self.inside.by_uid)) name in
    (λ i. held (gone i) (c.remove_at-old.ensures.room i)) ∙ ap {A = Held Place} {B = Held Place} (λ t. record t { map = fin.remove t.map c.args.uid.now }) c.self.view_is

-- what is used of the old place's node changes
pub returns-clause-shown : goal.returns-clause-shown
returns-clause-shown c shown =
    let m = map_of c.self.inside.by_uid in
    let old = c.remove_at-old.result.value in
    let uid = c.args.uid.now in
    let had : fin.get m uid ≡ Some old = c.in-Some.ensures.value ∙ ap (option_map (λ (e : Entry Place). e.value)) c.remove_at-old.ensures.entry in
    let named : Some c.remove_at-old.result.name ≡ Some uid = sym (ap (option_map (λ (e : Entry Place). e.name)) c.remove_at-old.ensures.entry) ∙ c.in-Some.ensures.name in
    let name : c.remove_at-old.result.name ≡ uid = same_Some _ _ named in
    let each_left = each_less m uid old had (map_of c.self.inside.totals) (map_of c.take-slot_before.new.totals) c.self.invariant.counted.each c.take-slot_before.ensures.each in
    let before = subst (λ (t : Held Place). IsShown (used t.map) c.args.nodes.now) (sym c.self.view_is) shown in
    let after = c.keep.ensures.shown (used m) (used (fin.remove m uid)) before (c.take-slot_before.ensures.now ∙ each_left old.node)
    (alike_less (used m) (used (fin.remove m uid)) old.node old.request (λ q. sym (used_apart m uid old had q))) in
    subst (λ n. IsShown (used n) c.keep.new.self) (sym (c.remove_at-old.ensures.map ∙ ap (fin.remove m) name)) after

pub returns-clause-kept : goal.returns-clause-kept
returns-clause-kept c none = absurd (true≢false none)
