use Rattle.std.proofs.Common.{refl, ap, ◌∙◌}
use Rattle.queued.specs.declared.state.State.TheVariants.{InFlight}
use Rattle.queued.specs.Entry.{is_active, is_backoff, is_unschedulable}
use Rattle.queue.specs.inside.Index.{is_unmarked}
use Rattle.queue.proofs.Indexes.{all_there, grounded, leaves_active, leaves_backoff, leaves_marked, leaves_unschedulable, leaves_unmarked, stands_as}
use Rattle.queue.proofs.index.Index.leave.Goals as goal

pub returns-in-Active-clause-index : goal.returns-in-Active-clause-index
returns-in-Active-clause-index c = leaves_active c.args.pods.now c.args.self.now c.remove.new.row c.args.slot c.args.state c.requires.index c.requires.state c.in-Active.is c.remove.ensures.without c.remove.ensures.room c.remove.ensures.heap

pub returns-in-Backoff-clause-index : goal.returns-in-Backoff-clause-index
returns-in-Backoff-clause-index c = leaves_backoff c.args.pods.now c.args.self.now c.remove-in-Backoff.new.row c.args.slot c.args.state c.in-Backoff.field-0 c.requires.index c.requires.state c.in-Backoff.is c.remove-in-Backoff.ensures.without c.remove-in-Backoff.ensures.room c.remove-in-Backoff.ensures.heap

pub returns-in-Unschedulable-clause-index : goal.returns-in-Unschedulable-clause-index
returns-in-Unschedulable-clause-index c = leaves_unschedulable c.args.pods.now c.args.self.now c.remove-in-Unschedulable.new.row c.args.slot c.args.state c.in-Unschedulable.field-0 c.requires.index c.requires.state c.in-Unschedulable.is c.remove-in-Unschedulable.ensures.without c.remove-in-Unschedulable.ensures.room c.remove-in-Unschedulable.ensures.heap

pub returns-in-InFlight-default-false-clause-index : goal.returns-in-InFlight-default-false-clause-index
returns-in-InFlight-default-false-clause-index c =
    leaves_unmarked c.args.pods.now c.args.self.now c.take.new.self c.args.slot c.args.state c.in-InFlight-default-false.pass c.requires.index c.requires.state
    (c.in-InFlight-default-false.is ∙ ap (InFlight c.in-InFlight-default-false.pass) c.in-InFlight-default-false.moved-test) c.take.ensures.without c.take.ensures.room

pub returns-in-InFlight-default-true-clause-index : goal.returns-in-InFlight-default-true-clause-index
returns-in-InFlight-default-true-clause-index c =
    leaves_marked c.args.pods.now c.args.self.now c.args.slot c.args.state c.in-InFlight-default-true.pass c.requires.index c.requires.state
    (c.in-InFlight-default-true.is ∙ ap (InFlight c.in-InFlight-default-true.pass) c.in-InFlight-default-true.moved-test)

pub remove-requires-clause-here : goal.remove-requires-clause-here
remove-requires-clause-here c = c.requires.index.active.all c.args.slot (stands_as is_active c.args.pods.now c.args.slot c.args.state _ c.requires.state c.in-Active.is)

pub remove-requires-clause-there : goal.remove-requires-clause-there
remove-requires-clause-there c = all_there is_active c.args.pods.now c.args.self.now.active c.requires.index.active.there

pub remove-requires-clause-heap : goal.remove-requires-clause-heap
remove-requires-clause-heap c = c.requires.index.by_order

pub returns-in-Active-clause-none : goal.returns-in-Active-clause-none
returns-in-Active-clause-none c = λ flies. absurd (grounded c.args.state _ c.in-Active.is refl flies)

pub remove-requires-in-Backoff-clause-here : goal.remove-requires-in-Backoff-clause-here
remove-requires-in-Backoff-clause-here c = c.requires.index.backoff.all c.args.slot (stands_as is_backoff c.args.pods.now c.args.slot c.args.state _ c.requires.state c.in-Backoff.is)

pub remove-requires-in-Backoff-clause-there : goal.remove-requires-in-Backoff-clause-there
remove-requires-in-Backoff-clause-there c = all_there is_backoff c.args.pods.now c.args.self.now.backoff c.requires.index.backoff.there

pub remove-requires-in-Backoff-clause-heap : goal.remove-requires-in-Backoff-clause-heap
remove-requires-in-Backoff-clause-heap c = c.requires.index.by_end

pub returns-in-Backoff-clause-none : goal.returns-in-Backoff-clause-none
returns-in-Backoff-clause-none c = λ flies. absurd (grounded c.args.state _ c.in-Backoff.is refl flies)

pub remove-requires-in-Unschedulable-clause-here : goal.remove-requires-in-Unschedulable-clause-here
remove-requires-in-Unschedulable-clause-here c = c.requires.index.unschedulable.all c.args.slot (stands_as is_unschedulable c.args.pods.now c.args.slot c.args.state _ c.requires.state c.in-Unschedulable.is)

pub remove-requires-in-Unschedulable-clause-there : goal.remove-requires-in-Unschedulable-clause-there
remove-requires-in-Unschedulable-clause-there c = all_there is_unschedulable c.args.pods.now c.args.self.now.unschedulable c.requires.index.unschedulable.there

pub remove-requires-in-Unschedulable-clause-heap : goal.remove-requires-in-Unschedulable-clause-heap
remove-requires-in-Unschedulable-clause-heap c = c.requires.index.by_failure

pub returns-in-Unschedulable-clause-none : goal.returns-in-Unschedulable-clause-none
returns-in-Unschedulable-clause-none c = λ flies. absurd (grounded c.args.state _ c.in-Unschedulable.is refl flies)

pub take-requires : goal.take-requires
take-requires c =
    c.requires.index.unmarked.all c.args.slot
    (stands_as is_unmarked c.args.pods.now c.args.slot c.args.state _ c.requires.state (c.in-InFlight-default-false.is ∙ ap (InFlight c.in-InFlight-default-false.pass) c.in-InFlight-default-false.moved-test))
