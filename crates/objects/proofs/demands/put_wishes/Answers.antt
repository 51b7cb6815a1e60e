use Rattle.objects.specs.Demands.{wishes}
use Rattle.objects.proofs.Puts.{behind}
use Rattle.objects.proofs.demands.put_wishes.Goals as goal

pub returns : goal.returns
unfolding wishes
returns c =
    let nodes = rw (c.is_untold.ensures, c.affinity-nodes.ensures) at c.put_left_out_if.ensures in
    let beside = rw c.asks-beside.ensures at c.put_left_out_if-2.ensures in
    let apart = rw c.asks-apart.ensures at c.put_left_out_if-3.ensures in
    let spread = rw c.asks_spread.ensures at c.put_left_out_if-4.ensures in
    behind _ _ _ (behind _ _ _ (behind _ _ _ nodes beside) apart) spread
