use Rattle.std.proofs.Common.{◌≡◌, ℕ, ◌+◌, ◌≤◌, Some, arith, sym, ap, ◌∙◌, refl}
use Rattle.name_table.specs.Slots.{put_in}
use Rattle.queued.specs.Entry.{is_in_flight}
use Rattle.queue.specs.inside.Index.{state_in}
use Rattle.queued.specs.Change.{applied}
use Rattle.queue.proofs.Indexes.{changed, stands_as, state_of, written}
use Rattle.queue.proofs.Changes.{put_is, there_put}
use Rattle.queue.proofs.slots.change.Goals as goal

-- entries are compared where a pod leaves a heap, and where it enters one
only_entered : (left entered : ℕ) → left ≡ 0 → entered ≤ left + 13 → entered ≤ 26
only_entered left entered none more = omega arith

only_left : (left entered : ℕ) → entered ≡ left → left ≤ 0 + 26 → entered ≤ 26
only_left left entered none more = omega arith

pub value_at-requires : goal.value_at-requires
value_at-requires c = c.requires.there

pub leave-requires-clause-index : goal.leave-requires-clause-index
leave-requires-clause-index c = c.requires.index

pub leave-requires-clause-few : goal.leave-requires-clause-few
leave-requires-clause-few c = omega arith

pub leave-requires-clause-state : goal.leave-requires-clause-state
leave-requires-clause-state c = state_of _ _ c.value_at.ensures.value ∙ ap Some (sym c.state-before.ensures)

pub value_at_mut-value-requires : goal.value_at_mut-value-requires
value_at_mut-value-requires c = c.requires.there

pub apply-requires : goal.apply-requires
apply-requires c = c.requires.timely

pub enter-requires-clause-few : goal.enter-requires-clause-few
enter-requires-clause-few c = omega (arith, c.leave.ensures.counted)

pub enter-requires-clause-index : goal.enter-requires-clause-index
enter-requires-clause-index c =
    changed c.args.pods.now (put_in c.args.pods.now c.args.slot c.apply.new.self) c.leave.new.self c.args.slot (written c.args.pods.now c.args.slot _) c.leave.ensures.index

pub enter-requires-clause-state : goal.enter-requires-clause-state
enter-requires-clause-state c = state_of _ _ c.value_at-2.ensures.value ∙ ap Some (sym c.state-after.ensures)

pub returns-clause-index : goal.returns-clause-index
returns-clause-index c = c.enter.ensures.index

pub returns-clause-after : goal.returns-clause-after
returns-clause-after c =
    put_is c.args.pods.now c.args.slot c.value_at_mut-value.result.now c.apply.new.self (applied c.args.change) c.value_at_mut-value.ensures.value c.apply.ensures

pub returns-clause-from_flight : goal.returns-clause-from_flight
returns-clause-from_flight c = λ flies.
    let stood : state_in c.args.pods.now c.args.slot ≡ Some c.state-before.result = state_of _ _ c.value_at.ensures.value ∙ ap Some (sym c.state-before.ensures) in
    only_entered _ _ (c.leave.ensures.none (sym (stands_as is_in_flight c.args.pods.now c.args.slot _ _ stood refl) ∙ flies)) c.enter.ensures.counted

pub returns-clause-to_flight : goal.returns-clause-to_flight
returns-clause-to_flight c = λ flies.
    let pods = put_in c.args.pods.now c.args.slot c.apply.new.self in
    let stands : state_in pods c.args.slot ≡ Some c.state-after.result = state_of _ _ c.value_at-2.ensures.value ∙ ap Some (sym c.state-after.ensures) in
    only_left _ _ (c.enter.ensures.none (sym (stands_as is_in_flight pods c.args.slot _ _ stands refl) ∙ flies)) c.leave.ensures.counted

pub value_at-requires-2 : goal.value_at-requires-2
value_at-requires-2 c = there_put c.args.pods.now c.args.slot c.apply.new.self c.requires.there
