use Rattle.std.proofs.Common.{◌≡◌, length, None, Some, is_some, sym, ap, ◌∙◌}
use Rattle.std.specs.Option.{option_map}
use Rattle.std.specs.Cmp.Lexicographic.{bytes_decides}
use Rattle.name_table.specs.Slots.{Slots, entry_in}
use Rattle.name_table.proofs.FreeLemmas.{free_past}
use Rattle.name_table.specs.declared.entry.Entry.{Entry}
use Rattle.book.specs.declared.place.Place.{Place}
use Rattle.book.proofs.places.slot_near.Goals as goal

-- the entry in the slot that was guessed has the name
pub returns-in-Some-Some-clause-name : goal.returns-in-Some-Some-clause-name
returns-in-Some-Some-clause-name c =
    let entry = c.in-Some-Some.entry in
    let same = (bytes_decides entry.name c.args.name.now).0 (sym c.eq.ensures ∙ c.if-eq.true) in
    let read : entry_in c.slots.result.now c.args.guess ≡ Some entry = sym (c.in-Some-Some.ensures.lookup.3.1 None) ∙ c.in-Some-Some.field-0-is in
    let there : entry_in c.args.table.now c.args.guess ≡ Some entry = ap (λ (t : Slots Place). entry_in t c.args.guess) (sym c.slots.ensures) ∙ free_past c.slots.result.now (length c.args.table.now) c.args.guess ∙ read in
    ap (λ o. option_map (λ (e : Entry Place). e.name) o) there ∙ ap Some same

pub returns-in-Some-Some-clause-filled : goal.returns-in-Some-Some-clause-filled
returns-in-Some-Some-clause-filled c =
    let entry = c.in-Some-Some.entry in
    let read : entry_in c.slots.result.now c.args.guess ≡ Some entry = sym (c.in-Some-Some.ensures.lookup.3.1 None) ∙ c.in-Some-Some.field-0-is in
    ap is_some (ap (λ (t : Slots Place). entry_in t c.args.guess) (sym c.slots.ensures) ∙ free_past c.slots.result.now (length c.args.table.now) c.args.guess ∙ read)
