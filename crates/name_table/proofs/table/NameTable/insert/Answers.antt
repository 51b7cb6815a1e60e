-- The first slot of the last chain is free, and moves to the name's bucket.
use Rattle.std.proofs.Common.{◌≡◌, ◌+◌, ◌<◌, length, set, None, is_some, sym, ap, subst, ◌∙◌, arith}
use Rattle.std.proofs.lemmas.List.Sums.{count_by-le-length}
use Rattle.std.specs.FinMap as fin
use Rattle.name_table.specs.Slots.{Slots, entry_in, map_of, NamesOnce}
use Rattle.name_table.specs.inside.Buckets.{IsFiled}
use Rattle.name_table.proofs.SlotLemmas.{map_insert, once_insert}
use Rattle.name_table.proofs.TableLemmas.{free_head, homes_many, home_chain, filed_insert}
use Rattle.name_table.proofs.table.NameTable.insert.Goals as goal

pub transfer-requires-clause-a_slot : goal.transfer-requires-clause-a_slot
transfer-requires-clause-a_slot g c =
    let s = c.self.inside.entries in
    let f = c.self.invariant in
    let slot = c.get-slot.result in
    let free = free_head c.self.inside.keys c.self.inside.mask c.self.inside.chains s c.self.inside.len f c.args.self.now c.self.view_is slot c.get-slot.ensures c.requires.room in
    let many = homes_many c.self.inside.keys c.self.inside.mask c.self.inside.chains s c.self.inside.len f in
    let lt = free.0 in
    omega arith

pub transfer-requires-clause-at_home : goal.transfer-requires-clause-at_home
transfer-requires-clause-at_home g c =
    let s = c.self.inside.entries in
    let f = c.self.invariant in
    let slot = c.get-slot.result in
    let free = free_head c.self.inside.keys c.self.inside.mask c.self.inside.chains s c.self.inside.len f c.args.self.now c.self.view_is slot c.get-slot.ensures c.requires.room in
    home_chain c.self.inside.keys c.self.inside.mask c.self.inside.chains s c.self.inside.len f slot free.0

pub put-requires : goal.put-requires
put-requires g c =
    let s = c.self.inside.entries in
    let f = c.self.invariant in
    let slot = c.get-slot.result in
    let free = free_head c.self.inside.keys c.self.inside.mask c.self.inside.chains s c.self.inside.len f c.args.self.now c.self.view_is slot c.get-slot.ensures c.requires.room in
    free.0

pub invariant_of-self : goal.invariant_of-self
invariant_of-self g c =
    let s = c.self.inside.entries in
    let f = c.self.invariant in
    let slot = c.get-slot.result in
    let free = free_head c.self.inside.keys c.self.inside.mask c.self.inside.chains s c.self.inside.len f c.args.self.now c.self.view_is slot c.get-slot.ensures c.requires.room in
    let new : fin.get (map_of s) c.args.name ≡ None = ap (λ (z : Slots _). fin.get (map_of z) c.args.name) c.self.view_is ∙ c.requires.new in
    subst (λ (z : Slots _). IsFiled c.self.inside.keys c.self.inside.mask c.transfer.new.self z (c.self.inside.len + 1)) (sym c.put.ensures)
    (
    filed_insert c.self.inside.keys c.self.inside.mask c.self.inside.chains s c.self.inside.len f c.transfer.new.self slot c.args.name c.args.value c.transfer.ensures.woven c.transfer.ensures.heads
    (c.transfer.ensures.homes ∙ ap (set c.self.inside.chains.links.homes slot) c.bucket-bucket.ensures.bucket) free.0 free.1 new
    )

pub returns-clause-free : goal.returns-clause-free
returns-clause-free g c =
    let s = c.self.inside.entries in
    let f = c.self.invariant in
    let slot = c.get-slot.result in
    let free = free_head c.self.inside.keys c.self.inside.mask c.self.inside.chains s c.self.inside.len f c.args.self.now c.self.view_is slot c.get-slot.ensures c.requires.room in
    ap (λ (z : Slots _). entry_in z slot) (sym c.self.view_is) ∙ free.1

pub returns-clause-a_slot : goal.returns-clause-a_slot
returns-clause-a_slot g c =
    let s = c.self.inside.entries in
    let f = c.self.invariant in
    let slot = c.get-slot.result in
    let free = free_head c.self.inside.keys c.self.inside.mask c.self.inside.chains s c.self.inside.len f c.args.self.now c.self.view_is slot c.get-slot.ensures c.requires.room in
    subst (λ (z : Slots _). slot < length z) c.self.view_is free.0

pub returns-clause-map : goal.returns-clause-map
returns-clause-map g c =
    let s = c.self.inside.entries in
    let f = c.self.invariant in
    let slot = c.get-slot.result in
    let free = free_head c.self.inside.keys c.self.inside.mask c.self.inside.chains s c.self.inside.len f c.args.self.now c.self.view_is slot c.get-slot.ensures c.requires.room in
    let new : fin.get (map_of s) c.args.name ≡ None = ap (λ (z : Slots _). fin.get (map_of z) c.args.name) c.self.view_is ∙ c.requires.new in
    ap (λ (z : Slots _). map_of z) c.put.ensures ∙ map_insert s slot c.args.name c.args.value free.0 f.once free.1 new ∙ ap (λ (z : Slots _). fin.insert (map_of z) c.args.name c.args.value) c.self.view_is

pub returns-clause-once : goal.returns-clause-once
returns-clause-once g c =
    let s = c.self.inside.entries in
    let f = c.self.invariant in
    let slot = c.get-slot.result in
    let free = free_head c.self.inside.keys c.self.inside.mask c.self.inside.chains s c.self.inside.len f c.args.self.now c.self.view_is slot c.get-slot.ensures c.requires.room in
    let new : fin.get (map_of s) c.args.name ≡ None = ap (λ (z : Slots _). fin.get (map_of z) c.args.name) c.self.view_is ∙ c.requires.new in
    subst NamesOnce (sym c.put.ensures) (once_insert s slot c.args.name c.args.value free.0 f.once new)

-- there are fewer names than slots
pub overflow_add-self : goal.overflow_add-self
overflow_add-self g c =
    let s = c.self.inside.entries in
    let f = c.self.invariant in
    let slots = homes_many c.self.inside.keys c.self.inside.mask c.self.inside.chains s c.self.inside.len f in
    omega (arith, f.counted, count_by-le-length is_some s, slots, f.woven.as_many, f.woven.few_slots)
