-- The count is compared with the room.
use Rattle.std.proofs.Common.{◌≡◌, length, nat_le, count_by, is_some, subst, sym, ap, ◌∙◌, arith}
use Rattle.std.proofs.lemmas.List.Sums.{count_by-le-length}
use Rattle.std.specs.FinMap as fin
use Rattle.name_table.specs.Slots.{NamesOnce, map_of}
use Rattle.name_table.proofs.SlotLemmas.{len_map}
use Rattle.name_table.proofs.table.NameTable.is_full.Goals as goal

pub returns-clause-full : goal.returns-clause-full
returns-clause-full g c =
    let now = c.args.self.now in
    let room : c.room.result ≡ length now = c.room.ensures ∙ ap length c.self.view_is in
    let many : c.self.inside.len ≡ fin.len (map_of now) = c.self.invariant.counted ∙ ap (count_by is_some) c.self.view_is ∙ sym (len_map now (subst NamesOnce c.self.view_is c.self.invariant.once)) in
    λ t. nat_le (room t) (many t)

pub returns-clause-few : goal.returns-clause-few
returns-clause-few g c =
    omega (arith, len_map c.args.self.now (subst NamesOnce c.self.view_is c.self.invariant.once), count_by-le-length is_some c.args.self.now)
