use Rattle.std.proofs.Common.{◌∙◌}
use Rattle.objects.specs.inside.Members.{kept}
use Rattle.objects.proofs.Each.{toleration_more, tolerations_done}
use Rattle.objects.proofs.Puts.{so, step}
use Rattle.objects.proofs.tolerations.fill_tolerations.Goals as goal

pub loop-item-preserved : goal.loop-item-preserved
loop-item-preserved c =
    step c.loop-item.invariant c.take_toleration.ensures (λ so_far more.
    so_far
    ∙ toleration_more c.args.found.now c.loop-item.item-index c.item-item.result
    (kept c.loop-item.tolerations c.loop-item.out.bytes.items) (kept c.take_toleration.new.tolerations c.take_toleration.new.out.bytes.items)
    c.loop-item-test.true c.item-item.is more)

pub returns : goal.returns
returns c =
    so c.loop-item.invariant (λ all.
    rw (← c.in-Ok.ensures)
    (all ∙ tolerations_done c.args.found.now c.loop-item.item-index (kept c.loop-item.tolerations c.loop-item.out.bytes.items) c.loop-item-test.false))
