use Rattle.std.proofs.Common.{◌<◌, length, Some, sym, ap, ◌∙◌, arith}
use Rattle.std.proofs.lemmas.List.{length-map, length_push}
use Rattle.name_table.specs.Slots.{entry_in}
use Rattle.book.specs.inside.Finishes.{finish_in}
use Rattle.book.proofs.FinishLemmas.{collected_more, collected_all, finish_at, finished_there}
use Rattle.book.proofs.overdue.collect.Goals as goal

-- one more slot has been gone over
pub loop-slot-preserved : goal.loop-slot-preserved
loop-slot-preserved c =
    let put = c.push_reserved.ensures.items in
    let many = ap length c.requires.timed ∙ length-map c.args.table.now finish_in in
    record {
      room = omega (arith, c.loop-slot.invariant.room, c.push_reserved.ensures.capacity);
      few = omega (arith, ap length put, length_push c.loop-slot.names.items c.copied.result, c.loop-slot.invariant.few, c.in-Some.ensures.later);
      within = omega (arith, many, c.in-Some.ensures.a_slot);
      all = collected_more c.loop-slot.names.items c.push_reserved.new.self.items c.args.table.now c.args.finishes.now c.args.limit c.loop-slot.from c.in-Some.slot c.copied.result put
          (c.name_at.ensures ∙ ap Some (sym c.copied.ensures)) c.in-Some.ensures.first c.loop-slot.invariant.all;
    }

-- all slots have been gone over
pub returns-clause-all : goal.returns-clause-all
returns-clause-all c =
    collected_all c.loop-slot.names.items c.args.table.now c.args.finishes.now c.args.limit c.loop-slot.from c.len-placed.ensures.once c.requires.timed c.in_default.ensures.none c.loop-slot.invariant.all

pub loop-slot-init : goal.loop-slot-init
loop-slot-init c = record {
  room = omega (arith, c.clear.ensures.capacity);
  few = omega (arith, c.clear.ensures.len);
  within = omega arith;
  all = λ i uid lt _ _. absurd (omega (arith, lt));
}

-- the slot has a place, since its millisecond isn't so late as that of none
pub name_at-requires : goal.name_at-requires
name_at-requires c =
    let within : c.in-Some.slot < length c.args.table.now = omega (arith, c.in-Some.ensures.a_slot, ap length c.requires.timed, length-map c.args.table.now finish_in) in
    finished_there (entry_in c.args.table.now c.in-Some.slot) c.args.limit c.requires.early (omega (arith, finish_at c.args.table.now c.args.finishes.now c.in-Some.slot c.requires.timed within, c.in-Some.ensures.early))

-- and there is room for its name
pub push_reserved-requires : goal.push_reserved-requires
push_reserved-requires c =
    omega (arith, c.in-Some.ensures.a_slot, c.in-Some.ensures.later, ap length c.requires.timed, length-map c.args.table.now finish_in, c.loop-slot.invariant.few, c.loop-slot.invariant.room, c.requires.room, c.loop-slot.names.ok.0)

pub overflow_add-from : goal.overflow_add-from
overflow_add-from c = omega (arith, c.in-Some.ensures.a_slot, ap length c.requires.timed, length-map c.args.table.now finish_in, c.requires.small)

pub loop-slot-smaller : goal.loop-slot-smaller
loop-slot-smaller c = omega (arith, c.in-Some.ensures.a_slot, c.in-Some.ensures.later, ap length c.requires.timed, length-map c.args.table.now finish_in)
