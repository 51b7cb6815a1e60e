-- The map has the value that was put in.
use Rattle.std.proofs.Common.{ap, ◌∙◌}
use Rattle.name_table.specs.Slots.{map_of, put_in}
use Rattle.name_table.proofs.SlotLemmas.{map_put}
use Rattle.name_table.proofs.table.NameTable.replace_at.Goals as goal

pub returns-clause-map : goal.returns-clause-map
returns-clause-map g c name named =
    ap (λ v. map_of (put_in c.args.self.now c.args.slot v)) c.replace.ensures.after
    ∙ map_put c.args.self.now c.args.slot name c.args.value c.value_at_mut.ensures.once named
