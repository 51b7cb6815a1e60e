-- What a slot has is what is written there.
use Rattle.std.proofs.Common.{None, ap, ◌∙◌, arith}
use Rattle.name_table.specs.Slots.{Slots, entry_in}
use Rattle.name_table.proofs.FreeLemmas.{written_entry}
use Rattle.name_table.proofs.entries.Entries.get.Goals as goal

pub returns-in-Some : goal.returns-in-Some
returns-in-Some g c =
    let s = c.self.inside.written.items in
    c.as_ref.ensures.value ∙ c.in-Some.ensures.lookup.4 (omega arith) None
    ∙ ap (λ (z : Slots _). entry_in z c.args.slot) c.deref.ensures.value ∙ written_entry s c.args.self.now c.self.inside.room c.args.slot c.self.view_is

pub returns-in-None : goal.returns-in-None
returns-in-None g c =
    let s = c.self.inside.written.items in
    c.in-None.ensures.lookup.4 (omega arith) None
    ∙ ap (λ (z : Slots _). entry_in z c.args.slot) c.deref.ensures.value ∙ written_entry s c.args.self.now c.self.inside.room c.args.slot c.self.view_is
