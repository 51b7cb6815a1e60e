-- The slot moves to the last chain, and is free.
use Rattle.std.proofs.Common.{◌≡◌, ℕ, ◌-◌, ◌<◌, length, Some, IsSome, sym, ap, subst, ◌∙◌}
use Rattle.std.specs.Option.{option_map}
use Rattle.std.specs.FinMap as fin
use Rattle.name_table.specs.declared.entry.Entry.{Entry}
use Rattle.name_table.specs.Slots.{Slots, entry_in, name_in, map_of, NamesOnce}
use Rattle.name_table.specs.inside.Buckets.{IsFiled}
use Rattle.name_table.proofs.SlotLemmas.{map_remove, once_remove, some_within}
use Rattle.name_table.proofs.TableLemmas.{home_chain, homes_many, filed_remove}
use Rattle.name_table.proofs.table.NameTable.remove_at.Goals as goal

pub transfer-requires-clause-a_slot : goal.transfer-requires-clause-a_slot
transfer-requires-clause-a_slot g c =
    let s = c.self.inside.entries in
    let f = c.self.invariant in
    let slot = c.args.slot in
    let some : IsSome (entry_in s slot) = subst (λ (z : Slots _). IsSome (entry_in z slot)) (sym c.self.view_is) c.requires in
    subst (λ (n : ℕ). slot < n) (sym (homes_many c.self.inside.keys c.self.inside.mask c.self.inside.chains s c.self.inside.len f)) (some_within s slot some)

pub transfer-requires-clause-at_home : goal.transfer-requires-clause-at_home
transfer-requires-clause-at_home g c =
    let s = c.self.inside.entries in
    let f = c.self.invariant in
    let slot = c.args.slot in
    let some : IsSome (entry_in s slot) = subst (λ (z : Slots _). IsSome (entry_in z slot)) (sym c.self.view_is) c.requires in
    let lt : slot < length s = some_within s slot some in
    home_chain c.self.inside.keys c.self.inside.mask c.self.inside.chains s c.self.inside.len f slot lt

pub invariant_of-self : goal.invariant_of-self
invariant_of-self g c =
    let s = c.self.inside.entries in
    let f = c.self.invariant in
    let slot = c.args.slot in
    let some : IsSome (entry_in s slot) = subst (λ (z : Slots _). IsSome (entry_in z slot)) (sym c.self.view_is) c.requires in
    let lt : slot < length s = some_within s slot some in
    subst (λ (z : Slots _). IsFiled c.self.inside.keys c.self.inside.mask c.transfer.new.self z (c.self.inside.len - 1)) (sym c.take.ensures.slots)
    (filed_remove c.self.inside.keys c.self.inside.mask c.self.inside.chains s c.self.inside.len f c.transfer.new.self slot c.transfer.ensures.woven c.transfer.ensures.heads c.transfer.ensures.homes some lt)

pub returns-clause-map : goal.returns-clause-map
returns-clause-map g c =
    let s = c.self.inside.entries in
    let f = c.self.invariant in
    let slot = c.args.slot in
    let some : IsSome (entry_in s slot) = subst (λ (z : Slots _). IsSome (entry_in z slot)) (sym c.self.view_is) c.requires in
    let named : name_in s slot ≡ Some c.take.result.name = ap (option_map (λ (e : Entry _). e.name)) c.take.ensures.entry in
    ap (λ (z : Slots _). map_of z) c.take.ensures.slots ∙ map_remove s slot c.take.result.name f.once named ∙ ap (λ (z : Slots _). fin.remove (map_of z) c.take.result.name) c.self.view_is

pub returns-clause-once : goal.returns-clause-once
returns-clause-once g c =
    let s = c.self.inside.entries in
    let f = c.self.invariant in
    let slot = c.args.slot in
    let some : IsSome (entry_in s slot) = subst (λ (z : Slots _). IsSome (entry_in z slot)) (sym c.self.view_is) c.requires in
    let lt : slot < length s = some_within s slot some in
    subst NamesOnce (sym c.take.ensures.slots) (once_remove s slot lt f.once)
