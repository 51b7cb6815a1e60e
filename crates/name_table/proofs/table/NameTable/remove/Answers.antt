-- Where no slot has the name, the map is as it would be without it.
use Rattle.name_table.proofs.SlotLemmas.{remove_absent}
use Rattle.name_table.proofs.table.NameTable.remove.Goals as goal

pub returns-in-None-clause-map : goal.returns-in-None-clause-map
returns-in-None-clause-map g c = remove_absent c.args.self.now c.args.name.now c.in-None.ensures.value
