use Rattle.std.proofs.Common.{◌<◌, refl, ap, sym, ◌∙◌, subst}
use Rattle.queued.specs.declared.state.State.TheVariants.{InFlight}
use Rattle.queue.proofs.Rows.{with_pushed}
use Rattle.queued.specs.Entry.{is_active, is_backoff, is_unschedulable}
use Rattle.queue.proofs.Indexes.{all_there, enters_active, enters_backoff, enters_marked, enters_unschedulable, enters_unmarked, filled, grounded, slot_there}
use Rattle.queue.proofs.index.Index.enter.Goals as goal

pub returns-in-Active-clause-index : goal.returns-in-Active-clause-index
returns-in-Active-clause-index c = enters_active c.args.pods.now c.args.self.now c.insert.new.row c.args.slot c.args.state c.requires.index c.requires.state c.in-Active.is c.insert.ensures.with c.insert.ensures.room c.insert.ensures.heap

pub returns-in-Backoff-clause-index : goal.returns-in-Backoff-clause-index
returns-in-Backoff-clause-index c = enters_backoff c.args.pods.now c.args.self.now c.insert-in-Backoff.new.row c.args.slot c.args.state c.in-Backoff.field-0 c.requires.index c.requires.state c.in-Backoff.is c.insert-in-Backoff.ensures.with c.insert-in-Backoff.ensures.room c.insert-in-Backoff.ensures.heap

pub returns-in-Unschedulable-clause-index : goal.returns-in-Unschedulable-clause-index
returns-in-Unschedulable-clause-index c = enters_unschedulable c.args.pods.now c.args.self.now c.insert-in-Unschedulable.new.row c.args.slot c.args.state c.in-Unschedulable.field-0 c.requires.index c.requires.state c.in-Unschedulable.is c.insert-in-Unschedulable.ensures.with c.insert-in-Unschedulable.ensures.room c.insert-in-Unschedulable.ensures.heap

pub returns-in-InFlight-default-false-clause-index : goal.returns-in-InFlight-default-false-clause-index
returns-in-InFlight-default-false-clause-index c =
    enters_unmarked c.args.pods.now c.args.self.now c.push.new.self c.args.slot c.args.state c.in-InFlight-default-false.pass c.requires.index c.requires.state
    (c.in-InFlight-default-false.is ∙ ap (InFlight c.in-InFlight-default-false.pass) c.in-InFlight-default-false.moved-test) (with_pushed c.args.self.now.unmarked.slots c.push.new.self.slots c.args.slot c.push.ensures.pushed) c.push.ensures.room

pub returns-in-InFlight-default-true-clause-index : goal.returns-in-InFlight-default-true-clause-index
returns-in-InFlight-default-true-clause-index c =
    enters_marked c.args.pods.now c.args.self.now c.args.slot c.args.state c.in-InFlight-default-true.pass c.requires.index c.requires.state
    (c.in-InFlight-default-true.is ∙ ap (InFlight c.in-InFlight-default-true.pass) c.in-InFlight-default-true.moved-test)

pub insert-requires-clause-a_slot : goal.insert-requires-clause-a_slot
insert-requires-clause-a_slot c = subst (λ n. c.args.slot < n) (sym c.requires.index.active.room) (slot_there c.args.pods.now c.args.slot c.args.state c.requires.state)

pub insert-requires-clause-new : goal.insert-requires-clause-new
insert-requires-clause-new c = c.requires.index.active.out

pub insert-requires-clause-filled : goal.insert-requires-clause-filled
insert-requires-clause-filled c = filled _ _ c.requires.state

pub insert-requires-clause-there : goal.insert-requires-clause-there
insert-requires-clause-there c = all_there is_active c.args.pods.now c.args.self.now.active c.requires.index.active.there

pub insert-requires-clause-heap : goal.insert-requires-clause-heap
insert-requires-clause-heap c = c.requires.index.by_order

pub returns-in-Active-clause-none : goal.returns-in-Active-clause-none
returns-in-Active-clause-none c = λ flies. absurd (grounded c.args.state _ c.in-Active.is refl flies)

pub insert-requires-in-Backoff-clause-a_slot : goal.insert-requires-in-Backoff-clause-a_slot
insert-requires-in-Backoff-clause-a_slot c = subst (λ n. c.args.slot < n) (sym c.requires.index.backoff.room) (slot_there c.args.pods.now c.args.slot c.args.state c.requires.state)

pub insert-requires-in-Backoff-clause-new : goal.insert-requires-in-Backoff-clause-new
insert-requires-in-Backoff-clause-new c = c.requires.index.backoff.out

pub insert-requires-in-Backoff-clause-filled : goal.insert-requires-in-Backoff-clause-filled
insert-requires-in-Backoff-clause-filled c = filled _ _ c.requires.state

pub insert-requires-in-Backoff-clause-there : goal.insert-requires-in-Backoff-clause-there
insert-requires-in-Backoff-clause-there c = all_there is_backoff c.args.pods.now c.args.self.now.backoff c.requires.index.backoff.there

pub insert-requires-in-Backoff-clause-heap : goal.insert-requires-in-Backoff-clause-heap
insert-requires-in-Backoff-clause-heap c = c.requires.index.by_end

pub returns-in-Backoff-clause-none : goal.returns-in-Backoff-clause-none
returns-in-Backoff-clause-none c = λ flies. absurd (grounded c.args.state _ c.in-Backoff.is refl flies)

pub insert-requires-in-Unschedulable-clause-a_slot : goal.insert-requires-in-Unschedulable-clause-a_slot
insert-requires-in-Unschedulable-clause-a_slot c = subst (λ n. c.args.slot < n) (sym c.requires.index.unschedulable.room) (slot_there c.args.pods.now c.args.slot c.args.state c.requires.state)

pub insert-requires-in-Unschedulable-clause-new : goal.insert-requires-in-Unschedulable-clause-new
insert-requires-in-Unschedulable-clause-new c = c.requires.index.unschedulable.out

pub insert-requires-in-Unschedulable-clause-filled : goal.insert-requires-in-Unschedulable-clause-filled
insert-requires-in-Unschedulable-clause-filled c = filled _ _ c.requires.state

pub insert-requires-in-Unschedulable-clause-there : goal.insert-requires-in-Unschedulable-clause-there
insert-requires-in-Unschedulable-clause-there c = all_there is_unschedulable c.args.pods.now c.args.self.now.unschedulable c.requires.index.unschedulable.there

pub insert-requires-in-Unschedulable-clause-heap : goal.insert-requires-in-Unschedulable-clause-heap
insert-requires-in-Unschedulable-clause-heap c = c.requires.index.by_failure

pub returns-in-Unschedulable-clause-none : goal.returns-in-Unschedulable-clause-none
returns-in-Unschedulable-clause-none c = λ flies. absurd (grounded c.args.state _ c.in-Unschedulable.is refl flies)

pub push-requires-clause-a_slot : goal.push-requires-clause-a_slot
push-requires-clause-a_slot c = subst (λ n. c.args.slot < n) (sym c.requires.index.unmarked.room) (slot_there c.args.pods.now c.args.slot c.args.state c.requires.state)

pub push-requires-clause-new : goal.push-requires-clause-new
push-requires-clause-new c = c.requires.index.unmarked.out
