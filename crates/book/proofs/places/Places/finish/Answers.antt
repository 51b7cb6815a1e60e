use Rattle.std.proofs.Common.{◌≡◌, length, refl, ap, sym, ◌∙◌, arith}
use Rattle.name_table.specs.Slots.{map_of}
use Rattle.book.specs.inside.Tables.{Held}
use Rattle.book.specs.Used.{used, assumed_in}
use Rattle.book.specs.declared.place.Place.{Place}
use Rattle.book.proofs.FinishLemmas.{slot_timed, timed_put}
use Rattle.book.proofs.TotalLemmas.{counted_alike, assumed_finished}
use Rattle.book.proofs.places.Places.finish.Goals as goal

-- the place is on the same node, and assumed or bound as before
pub set-requires : goal.set-requires
set-requires c = slot_timed c.self.inside.by_uid c.self.inside.finishes c.in-Some.slot c.self.invariant.timed c.in-Some.ensures.filled

pub invariant_of-self : goal.invariant_of-self
invariant_of-self c =
    let old = c.value_at-place.result.now in
    let p : Place = record { node = c.copied.result; request = old.request; status = c.finished.result } in
    record {
      counted = counted_alike (map_of c.self.inside.by_uid) (length c.self.inside.by_uid) _ _ _ c.self.invariant.counted _ _ c.replace_at.ensures.room c.args.uid.now old p
          (c.replace_at.ensures.map c.args.uid.now c.in-Some.ensures.name) (c.value_at-place.ensures.by_name c.args.uid.now c.in-Some.ensures.name)
          c.copied.ensures refl (ap assumed_in c.finished.ensures ∙ assumed_finished c.args.at old.status);
      timed = timed_put c.self.inside.by_uid c.replace_at.new.self c.self.inside.finishes c.set.new.self c.in-Some.slot c.finish.result p c.in-Some.ensures.filled c.self.invariant.timed c.replace_at.ensures.slots c.set.ensures c.finish.ensures;
      room = omega (arith, c.self.invariant.room, c.replace_at.ensures.room);
      gathered = tt;
    }

-- as much is used of each node
pub returns-clause-alike : goal.returns-clause-alike
returns-clause-alike c =
    let old = c.value_at-place.result.now in
    let p : Place = record { node = c.copied.result; request = old.request; status = c.finished.result } in
    let counted = counted_alike (map_of c.self.inside.by_uid) (length c.self.inside.by_uid) _ _ _ c.self.invariant.counted (map_of c.replace_at.new.self) (length c.replace_at.new.self) c.replace_at.ensures.room c.args.uid.now old p
    (c.replace_at.ensures.map c.args.uid.now c.in-Some.ensures.name) (c.value_at-place.ensures.by_name c.args.uid.now c.in-Some.ensures.name)
    c.copied.ensures refl (ap assumed_in c.finished.ensures ∙ assumed_finished c.args.at old.status) in
    let alike : used (map_of c.replace_at.new.self) ≡ used (map_of c.self.inside.by_uid) = λ i q. (sym (counted.each q) ∙ c.self.invariant.counted.each q) i in
    alike ∙ ap (λ (t : Held Place). used t.map) c.self.view_is

pub returns-clause-room : goal.returns-clause-room
returns-clause-room c = c.replace_at.ensures.room ∙ ap (λ (t : Held Place). t.room) c.self.view_is
