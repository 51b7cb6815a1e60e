-- Another value in a written slot.
use Rattle.std.proofs.Common.{◌≡◌, ◌<◌, length, set, Option, None, IsSome, refl, sym, ap, subst, ◌∙◌, arith}
use Rattle.std.proofs.lemmas.List.{get_or_read}
use Rattle.std.specs.Option.{option_map}
use Rattle.name_table.specs.declared.entry.Entry.{Entry}
use Rattle.name_table.specs.Slots.{entry_in, with_value}
use Rattle.name_table.proofs.FreeLemmas.{written_entry, written_within, free_set}
use Rattle.name_table.proofs.entries.Entries.value_mut.Goals as goal

pub index_mut-requires : goal.index_mut-requires
index_mut-requires g c =
    let v = c.self.inside.written in
    let lt : c.args.slot < length v.items = written_within v.items c.args.self.now c.self.inside.room c.args.slot c.self.view_is c.requires in
    let len = v.ok.0 in
    omega arith

pub value_of-requires : goal.value_of-requires
value_of-requires g c =
    let s = c.self.inside.written.items in
    let i = c.args.slot in
    let lt : i < length s = written_within s c.args.self.now c.self.inside.room i c.self.view_is c.requires in
    subst (λ (o : Option _). IsSome o)
    (
    sym (written_entry s c.args.self.now c.self.inside.room i c.self.view_is)
    ∙ sym (get_or_read s i c.index_mut.result.now lt c.index_mut.ensures.value None)
    )
    c.requires

pub invariant_of-self-lent : goal.invariant_of-self-lent
invariant_of-self-lent g c w = c.self.invariant

pub returns : goal.returns
returns g c =
    let s = c.self.inside.written.items in
    let room = c.self.inside.room in
    let i = c.args.slot in
    let same = written_entry s c.args.self.now room i c.self.view_is in
    let lt : i < length s = written_within s c.args.self.now room i c.self.view_is c.requires in
    let read : c.index_mut.result.now ≡ entry_in s i = get_or_read s i c.index_mut.result.now lt c.index_mut.ensures.value None in (
      (
        refl {a = c.value_of.result.ghost_name},
        λ w. sym (free_set s room i (with_value c.index_mut.result.now w) lt)
            ∙ (λ t. set (c.self.view_is t) i (with_value ((read ∙ same) t) w)),
      ),
      record {
        writes_back = tt;
        value = ap (option_map (λ (e : Entry _). e.value)) (sym (read ∙ same)) ∙ c.value_of.ensures.value;
      },
    )
