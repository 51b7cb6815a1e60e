-- The count is kept beside the slots.
use Rattle.std.proofs.Common.{count_by, is_some, subst, sym, ap, ◌∙◌, arith}
use Rattle.std.proofs.lemmas.List.Sums.{count_by-le-length}
use Rattle.name_table.specs.Slots.{NamesOnce}
use Rattle.name_table.proofs.SlotLemmas.{len_map}
use Rattle.name_table.proofs.table.NameTable.len.Goals as goal

pub returns-clause-len : goal.returns-clause-len
returns-clause-len g c =
    c.self.invariant.counted ∙ ap (count_by is_some) c.self.view_is ∙ sym (len_map c.args.self.now (subst NamesOnce c.self.view_is c.self.invariant.once))

pub returns-clause-few : goal.returns-clause-few
returns-clause-few g c =
    omega (arith, len_map c.args.self.now (subst NamesOnce c.self.view_is c.self.invariant.once), count_by-le-length is_some c.args.self.now)
