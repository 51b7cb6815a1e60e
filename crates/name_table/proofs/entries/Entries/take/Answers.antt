-- A slot that has an entry is written, and free then.
use Rattle.std.proofs.Common.{◌<◌, length, set, Option, None, IsSome, sym, subst, ◌∙◌, arith}
use Rattle.std.proofs.lemmas.List.{get_or_read}
use Rattle.name_table.proofs.FreeLemmas.{written_entry, written_within, free_set}
use Rattle.name_table.proofs.entries.Entries.take.Goals as goal

pub index_mut-requires : goal.index_mut-requires
index_mut-requires g c =
    let v = c.self.inside.written in
    let lt : c.args.slot < length v.items = written_within v.items c.args.self.now c.self.inside.room c.args.slot c.self.view_is c.requires in
    let len = v.ok.0 in
    omega arith

pub unwrap-requires : goal.unwrap-requires
unwrap-requires g c =
    let s = c.self.inside.written.items in
    let i = c.args.slot in
    let lt : i < length s = written_within s c.args.self.now c.self.inside.room i c.self.view_is c.requires in
    subst (λ (o : Option _). IsSome o)
    (
    sym (written_entry s c.args.self.now c.self.inside.room i c.self.view_is)
    ∙ sym (get_or_read s i c.index_mut.result.now lt c.index_mut.ensures.value None)
    ∙ sym c.take.ensures.value
    )
    c.requires

pub invariant_of-self : goal.invariant_of-self
invariant_of-self g c = c.self.invariant

pub returns-clause-entry : goal.returns-clause-entry
returns-clause-entry g c =
    let s = c.self.inside.written.items in
    let i = c.args.slot in
    let lt : i < length s = written_within s c.args.self.now c.self.inside.room i c.self.view_is c.requires in
    sym (written_entry s c.args.self.now c.self.inside.room i c.self.view_is)
    ∙ sym (get_or_read s i c.index_mut.result.now lt c.index_mut.ensures.value None)
    ∙ sym c.take.ensures.value ∙ c.unwrap.ensures

pub returns-clause-slots : goal.returns-clause-slots
returns-clause-slots g c =
    let s = c.self.inside.written.items in
    let room = c.self.inside.room in
    let i = c.args.slot in
    let lt : i < length s = written_within s c.args.self.now room i c.self.view_is c.requires in
    sym (free_set s room i c.take.new.self lt) ∙ (λ t. set (c.self.view_is t) i (c.take.ensures.after t))
