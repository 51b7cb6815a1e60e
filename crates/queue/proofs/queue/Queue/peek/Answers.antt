use Rattle.std.proofs.Common.{Some, sym, ap, ◌∙◌}
use Rattle.std.specs.Prelude.{option_map}
use Rattle.queued.specs.Entry.{Entry}
use Rattle.queue.specs.Order.{Item}
use Rattle.queue.specs.Queue.{next_of}
use Rattle.queue.proofs.Changes.{kept_in}
use Rattle.queue.proofs.States.{root_there, next_some, next_none, value_of_kept}
use Rattle.queue.proofs.queue.Queue.peek.Goals as goal

pub returns-in-None : goal.returns-in-None
returns-in-None c =
    sym (ap (option_map (λ (item : Item). item.1.pod)) (next_none c.self.inside.pods c.self.inside.index c.self.invariant.index c.self.invariant.once c.in-None.ensures))
    ∙ ap (λ q. option_map (λ (item : Item). item.1.pod) (next_of q)) c.self.view_is

pub returns-in-Some : goal.returns-in-Some
returns-in-Some c =
    let kept = c.self.invariant in
    let pods = c.self.inside.pods in
    let slot = c.in-Some.slot in
    let e = kept_in pods slot (root_there pods c.self.inside.index slot kept.index c.in-Some.ensures.0 c.in-Some.ensures.1) in
    ap (λ p. Some p) (c.pod.ensures ∙ ap (λ (x : Entry). x.pod) (value_of_kept pods slot e.0 c.value_at.result.now e.1 c.value_at.ensures.value))
    ∙ sym (ap (option_map (λ (item : Item). item.1.pod)) (next_some pods c.self.inside.index slot e.0 kept.index kept.once c.in-Some.ensures.0 c.in-Some.ensures.1 e.1))
    ∙ ap (λ q. option_map (λ (item : Item). item.1.pod) (next_of q)) c.self.view_is
