use Rattle.std.proofs.Common.{◌≡◌, sym, ap, ◌∙◌}
use Rattle.std.specs.Prelude.{Option, Some, option_map}
use Rattle.std.specs.Ordering.{is_lt}
use Rattle.std.specs.Option.{option_cmp}
use Rattle.queue.specs.Order.{Item}
use Rattle.queue.specs.inside.Heap.{wait_cmp, item_in, goes_before}
use Rattle.queue.proofs.Heaps.{Kept}
use Rattle.queue.proofs.heap.before.Goals as goal

pub returns-clause-answer : goal.returns-clause-answer
unfolding goes_before
returns-clause-answer c =
    let first = c.entry_at.result.now in
    let second = c.entry_at-2.result.now in
    let x : item_in c.args.pods.now c.args.a ≡ Some (first.name, first.value) = ap (option_map (λ (e : Kept). (e.name, e.value))) c.entry_at.ensures.entry in
    let y : item_in c.args.pods.now c.args.b ≡ Some (second.name, second.value) = ap (option_map (λ (e : Kept). (e.name, e.value))) c.entry_at-2.ensures.entry in
    c.is_lt.ensures ∙ ap is_lt c.order_of.ensures
    ∙ sym (ap (λ (o : Option Item). is_lt (option_cmp wait_cmp o (item_in c.args.pods.now c.args.b))) x ∙ ap (λ (o : Option Item). is_lt (option_cmp wait_cmp (Some (first.name, first.value)) o)) y)
