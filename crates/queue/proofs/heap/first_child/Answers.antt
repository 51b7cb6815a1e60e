use Rattle.std.proofs.Common.{◌+◌, ◌*◌, true, false, refl, arith}
use Rattle.queue.proofs.Heaps.{compared, second_child, first_child}
use Rattle.queue.proofs.heap.first_child.Goals as goal

pub returns-then-len-right-clause-first : goal.returns-then-len-right-clause-first
returns-then-len-right-clause-first c =
    first_child c.args.pods.now c.args.row.now.slots c.args.place (c.args.place * 2 + 1) (c.args.place * 2 + 1 + 1) refl refl (λ there. absurd (omega arith))

pub returns-then-before-clause-first : goal.returns-then-before-clause-first
returns-then-before-clause-first c =
    second_child c.args.pods.now c.args.row.now.slots c.args.place (c.args.place * 2 + 1) (c.args.place * 2 + 1 + 1) refl refl
    (compared c.args.pods.now c.at.result c.at-2.result _ _ c.before-2.result true c.before-2.ensures.answer c.at.ensures.slot c.at-2.ensures.slot c.if-before.true)

pub returns-else-before-clause-first : goal.returns-else-before-clause-first
returns-else-before-clause-first c =
    first_child c.args.pods.now c.args.row.now.slots c.args.place (c.args.place * 2 + 1) (c.args.place * 2 + 1 + 1) refl refl
    (λ there. compared c.args.pods.now c.at.result c.at-2.result _ _ c.before-2.result false c.before-2.ensures.answer c.at.ensures.slot c.at-2.ensures.slot c.if-before.false)
