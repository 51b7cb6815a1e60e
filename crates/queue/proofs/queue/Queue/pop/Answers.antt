use Rattle.std.proofs.Common.{◌≡◌, true, arith, refl, sym, ap, ◌∙◌}
use Rattle.std.specs.Prelude.{Some, IsSome, option_map}
use Rattle.quant.specs.declared.name.Name.{Name}
use Rattle.name_table.specs.Slots.{entry_in}
use Rattle.queued.specs.Entry.{is_in_flight, popped}
use Rattle.queue.specs.Order.{Item}
use Rattle.queue.specs.Queue.{next_of, after_pop}
use Rattle.queue.specs.inside.Heap.{Pods}
use Rattle.queue.specs.inside.Index.{stands_in}
use Rattle.queue.proofs.Changes.{kept_in}
use Rattle.queue.proofs.States.{root_there, next_some, next_none, kept_changed, stands_changed, pop_some, pop_none, name_of_kept}
use Rattle.queue.proofs.queue.Queue.pop.Goals as goal

pub returns-in_default-clause-answer : goal.returns-in_default-clause-answer
returns-in_default-clause-answer c =
    sym (ap (option_map (λ (item : Item). item.0)) (next_none c.self.inside.pods c.self.inside.index c.self.invariant.index c.self.invariant.once c.in_default.ensures))
    ∙ ap (λ q. option_map (λ (item : Item). item.0) (next_of q)) c.self.view_is

pub returns-in_default-clause-after : goal.returns-in_default-clause-after
returns-in_default-clause-after c =
    pop_none c.self.inside.pods c.self.inside.index c.args.pass c.self.invariant.index c.self.invariant.once c.in_default.ensures
    ∙ ap (λ q. after_pop q c.args.pass) c.self.view_is

pub invariant_of-self-2 : goal.invariant_of-self-2
invariant_of-self-2 c =
    let kept = c.self.invariant in
    let pods = c.self.inside.pods in
    let slot = c.in-Some.slot in
    let there : IsSome (entry_in pods slot) = root_there pods c.self.inside.index slot kept.index c.in-Some.ensures.0 c.in-Some.ensures.1 in
    let e = kept_in pods slot there in
    let flies : stands_in is_in_flight c.change-self-inside.new.pods slot ≡ true = ap (λ (p : Pods). stands_in is_in_flight p slot) c.change-self-inside.ensures.after ∙ stands_changed is_in_flight pods slot e.0 (popped c.args.pass) e.1 there in
    kept_changed pods c.change-self-inside.new.pods c.self.inside.index c.change-self-inside.new.index slot c.self.inside.compared c.change-self-inside.result (popped c.args.pass) kept c.change-self-inside.ensures.after (λ e. refl) there c.change-self-inside.ensures.index
    (omega (arith, c.change-self-inside.ensures.to_flight flies))

pub returns-clause-answer : goal.returns-clause-answer
returns-clause-answer c =
    let kept = c.self.invariant in
    let pods = c.self.inside.pods in
    let slot = c.in-Some.slot in
    let e = kept_in pods slot (root_there pods c.self.inside.index slot kept.index c.in-Some.ensures.0 c.in-Some.ensures.1) in
    ap (λ (u : Name). Some u) (c.copied-uid.ensures ∙ name_of_kept pods slot e.0 c.name_at.result.now e.1 c.name_at.ensures)
    ∙ sym (ap (option_map (λ (item : Item). item.0)) (next_some pods c.self.inside.index slot e.0 kept.index kept.once c.in-Some.ensures.0 c.in-Some.ensures.1 e.1))
    ∙ ap (λ q. option_map (λ (item : Item). item.0) (next_of q)) c.self.view_is

pub returns-clause-after : goal.returns-clause-after
returns-clause-after c =
    let kept = c.self.invariant in
    let pods = c.self.inside.pods in
    let slot = c.in-Some.slot in
    let e = kept_in pods slot (root_there pods c.self.inside.index slot kept.index c.in-Some.ensures.0 c.in-Some.ensures.1) in
    pop_some pods c.change-self-inside.new.pods c.self.inside.index slot e.0 c.args.pass kept.index kept.once c.in-Some.ensures.0 c.in-Some.ensures.1 e.1 c.change-self-inside.ensures.after
    ∙ ap (λ q. after_pop q c.args.pass) c.self.view_is
