use Rattle.std.proofs.Common.{arith}
use Rattle.objects.proofs.Named.{item_more, items_done}
use Rattle.objects.proofs.Puts.{so, step}
use Rattle.objects.proofs.demands.put_items.Goals as goal

pub loop-item-preserved : goal.loop-item-preserved
loop-item-preserved g c = step c.loop-item.invariant c.put.ensures (λ so_far more. grind (arith, item_more))

pub returns : goal.returns
returns g c = so c.loop-item.invariant (λ all. grind (arith, items_done))
