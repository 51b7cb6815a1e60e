use Rattle.std.proofs.Common.{◌≡◌, ℕ, ◌<◌, true, false, length, refl, sym, ap, ◌∙◌, subst}
use Rattle.std.specs.Prelude.{IsSome}
use Rattle.name_table.specs.Slots.{entry_in, map_of, NamesOnce}
use Rattle.queued.specs.Entry.{moved_on}
use Rattle.queue.specs.Queue.{each_changed}
use Rattle.queue.specs.inside.Heap.{Pods}
use Rattle.queue.specs.inside.Index.{stands_in, is_unmoved}
use Rattle.queue.specs.inside.Slots.{OwnUids}
use Rattle.queue.proofs.Indexes.{there_if}
use Rattle.queue.proofs.Changes.{tally, once_changed, own_changed, length_changed, each_step, one_less, unchanged, moved_twice, moved_rests, move_leaves, none_unmoved, unmoved_in}
use Rattle.queue.proofs.slots.move_each.Goals as goal

pub change-requires-clause-there : goal.change-requires-clause-there
change-requires-clause-there c =
    let stands : stands_in is_unmoved c.loop-slot.pods c.in-Some.slot ≡ true = unmoved_in c.loop-slot.pods c.loop-slot.index c.in-Some.slot c.loop-slot.invariant.index c.in-Some.ensures.some in
    there_if is_unmoved (entry_in c.loop-slot.pods c.in-Some.slot) stands

pub loop-slot-preserved : goal.loop-slot-preserved
loop-slot-preserved c =
    let was = c.loop-slot.invariant in
    let after = c.change.ensures.after in
    let stands : stands_in is_unmoved c.loop-slot.pods c.in-Some.slot ≡ true = unmoved_in c.loop-slot.pods c.loop-slot.index c.in-Some.slot c.loop-slot.invariant.index c.in-Some.ensures.some in
    let there : IsSome (entry_in c.loop-slot.pods c.in-Some.slot) = there_if is_unmoved (entry_in c.loop-slot.pods c.in-Some.slot) stands in
    record {
      index = c.change.ensures.index;
      once = subst (λ (p : Pods). NamesOnce p) (sym after) (once_changed c.loop-slot.pods c.in-Some.slot (moved_on c.args.now) there was.once);
      own = subst (λ (p : Pods). OwnUids p) (sym after) (own_changed c.loop-slot.pods c.in-Some.slot (moved_on c.args.now) (λ e. refl) there was.own);
      room = ap (λ (p : Pods). length p) after ∙ length_changed c.loop-slot.pods c.in-Some.slot (moved_on c.args.now) ∙ was.room;
      after = ap (λ (p : Pods). each_changed (moved_on c.args.now) (map_of p)) after ∙ each_step (moved_on c.args.now) c.loop-slot.pods c.args.pods.now c.in-Some.slot (moved_twice c.args.now) was.once there was.after;
    }

pub loop-slot-smaller : goal.loop-slot-smaller
loop-slot-smaller c =
    let stands : stands_in is_unmoved c.loop-slot.pods c.in-Some.slot ≡ true = unmoved_in c.loop-slot.pods c.loop-slot.index c.in-Some.slot c.loop-slot.invariant.index c.in-Some.ensures.some in
    subst (λ (p : Pods). tally is_unmoved p < tally is_unmoved c.loop-slot.pods) (sym c.change.ensures.after)
    (one_less is_unmoved c.loop-slot.pods c.in-Some.slot (moved_on c.args.now) stands (moved_rests c.args.now))

pub returns-clause-after : goal.returns-clause-after
returns-clause-after c =
    let rests : (s : ℕ) → stands_in is_unmoved c.loop-slot.pods s ≡ false = none_unmoved c.loop-slot.pods c.loop-slot.index c.loop-slot.invariant.index c.in_default.ensures.none.0 c.in_default.ensures.none.1 in
    sym (unchanged (moved_on c.args.now) c.loop-slot.pods c.loop-slot.invariant.once (move_leaves c.args.now c.loop-slot.pods rests)) ∙ c.loop-slot.invariant.after
