-- Another value leaves the names, and so the chains.
use Rattle.std.proofs.Common.{◌<◌, length, IsSome, sym, subst}
use Rattle.name_table.specs.Slots.{Slots, entry_in}
use Rattle.name_table.proofs.SlotLemmas.{some_within}
use Rattle.name_table.proofs.TableLemmas.{filed_put}
use Rattle.name_table.proofs.table.NameTable.value_at_mut.Goals as goal

pub invariant_of-self-lent : goal.invariant_of-self-lent
invariant_of-self-lent g c w =
    let s = c.self.inside.entries in
    let f = c.self.invariant in
    let slot = c.args.slot in
    let some : IsSome (entry_in s slot) = subst (λ (z : Slots _). IsSome (entry_in z slot)) (sym c.self.view_is) c.requires in
    let lt : slot < length s = some_within s slot some in
    filed_put c.self.inside.keys c.self.inside.mask c.self.inside.chains s c.self.inside.len f slot w lt
