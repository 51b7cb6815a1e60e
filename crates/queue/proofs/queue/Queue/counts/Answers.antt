use Rattle.std.proofs.Common.{length, sym, subst, ap, ◌∙◌, arith}
use Rattle.name_table.proofs.FreeLemmas.{free_least}
use Rattle.queue.specs.inside.Heap.{Pods}
use Rattle.queue.specs.Queue.{IsQueue, counts_of}
use Rattle.queue.specs.inside.Slots.{counts_so_far}
use Rattle.queue.proofs.States.{is_queue, counts-state, counts-free}
use Rattle.queue.proofs.queue.Queue.counts.Goals as goal

pub count_each-requires : goal.count_each-requires
count_each-requires c =
    omega (arith, free_least c.slots.result.now (length c.self.inside.pods), ap (λ (p : Pods). length p) c.slots.ensures, c.self.invariant.limited)

pub returns-clause-answer : goal.returns-clause-answer
returns-clause-answer c =
    c.count_each.ensures ∙ sym (counts-free c.slots.result.now (length c.self.inside.pods)) ∙ ap counts_so_far c.slots.ensures
    ∙ counts-state c.self.inside.pods c.self.invariant.once
    ∙ ap counts_of c.self.view_is

pub returns-clause-shape : goal.returns-clause-shape
returns-clause-shape c = subst IsQueue c.self.view_is (is_queue c.self.inside.pods c.self.inside.index c.self.inside.compared c.self.invariant)
