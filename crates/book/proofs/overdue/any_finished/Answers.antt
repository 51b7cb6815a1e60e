use Rattle.std.proofs.Common.{◌≡◌, ◌<◌, true, false, length, sym, ap, ◌∙◌, arith}
use Rattle.std.proofs.lemmas.List.{length-map}
use Rattle.name_table.specs.Slots.{entry_in}
use Rattle.book.specs.inside.Finishes.{finish_in}
use Rattle.book.proofs.FinishLemmas.{finish_at, finished_here, finished_there, none_in_slots}
use Rattle.book.proofs.overdue.any_finished.Goals as goal

pub returns-in-None-clause-none : goal.returns-in-None-clause-none
returns-in-None-clause-none c is = none_in_slots c.args.table.now c.args.finishes.now c.args.limit c.len-placed.ensures.once c.requires.timed c.in-None.ensures.none

-- the pod in that slot has such a place
pub returns-in-Some-clause-some : goal.returns-in-Some-clause-some
returns-in-Some-clause-some c is =
    (c.name_at.result.now, finished_here c.args.table.now c.args.finishes.now c.args.limit c.in-Some.slot c.name_at.result.now c.len-placed.ensures.once c.requires.early c.requires.timed c.in-Some.ensures.a_slot c.in-Some.ensures.early c.name_at.ensures)

pub returns-in-Some-clause-none : goal.returns-in-Some-clause-none
returns-in-Some-clause-none c is =
    let finished = finished_here c.args.table.now c.args.finishes.now c.args.limit c.in-Some.slot c.name_at.result.now c.len-placed.ensures.once c.requires.early c.requires.timed c.in-Some.ensures.a_slot c.in-Some.ensures.early c.name_at.ensures in
    let both : false ≡ true = sym is ∙ c.has_finished.ensures ∙ finished in absurd (cc)

-- the slot has a place, since its millisecond isn't so late as that of none
pub name_at-requires : goal.name_at-requires
name_at-requires c =
    let within : c.in-Some.slot < length c.args.table.now = omega (arith, c.in-Some.ensures.a_slot, ap length c.requires.timed, length-map c.args.table.now finish_in) in
    finished_there (entry_in c.args.table.now c.in-Some.slot) c.args.limit c.requires.early (omega (arith, finish_at c.args.table.now c.args.finishes.now c.in-Some.slot c.requires.timed within, c.in-Some.ensures.early))
