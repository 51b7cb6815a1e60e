use Rattle.std.proofs.Common.{rules, arith, ◌∷◌, [], length-append}
use Rattle.objects.proofs.taints.take_taints.Goals as goal

pub loop-item-preserved : goal.loop-item-preserved
loop-item-preserved c = record {
  room = rw (c.in_ok-push.ensures.put, length-append c.loop-item.row (c.in_ok-taint.taint ∷ [])) (omega (arith, c.loop-item.invariant.room));
  same = search rules;
}
