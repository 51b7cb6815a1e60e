use Rattle.objects.specs.PodRequest.{held_left_out}
use Rattle.objects.proofs.Puts.{behind}
use Rattle.objects.proofs.told.put_bound_left_out.Goals as goal

pub returns : goal.returns
unfolding held_left_out
returns c =
    let held = rw c.is_held_read-is_read.ensures at c.put_left_out_if.ensures in
    let apart = rw c.asks-apart.ensures at c.put_left_out_if-2.ensures in
    behind _ _ _ (behind _ _ _ c.put_more_left_out.ensures held) apart
