-- The map has the value of the slot.
use Rattle.std.proofs.Common.{ap, ◌∙◌}
use Rattle.std.specs.Option.{option_map}
use Rattle.name_table.specs.declared.entry.Entry.{Entry}
use Rattle.name_table.proofs.SlotLemmas.{map_named}
use Rattle.name_table.proofs.table.NameTable.value_at.Goals as goal

pub returns-clause-by_name : goal.returns-clause-by_name
returns-clause-by_name g c name named =
    map_named c.args.self.now c.args.slot name c.entry_at.ensures.once named ∙ ap (option_map (λ (e : Entry _). e.value)) c.entry_at.ensures.entry
