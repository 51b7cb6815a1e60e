use Rattle.objects.specs.Demands.{placement}
use Rattle.objects.proofs.Puts.{behind}
use Rattle.objects.proofs.demands.put_placement.Goals as goal

pub returns : goal.returns
unfolding placement
returns c =
    let selector = rw (c.is_untold.ensures, c.field-selector.ensures) at c.put_left_out_if.ensures in
    let nodes = rw (c.is_untold-2.ensures, c.affinity-nodes.ensures) at c.put_left_out_if-2.ensures in
    let beside = rw c.asks-beside.ensures at c.put_left_out_if-3.ensures in
    let apart = rw c.asks-apart.ensures at c.put_left_out_if-4.ensures in
    let read = rw (c.is_read_affinity-is_read.ensures, c.field.ensures) at c.put_left_out_if-5.ensures in
    let spread = rw c.asks_spread.ensures at c.put_left_out_if-6.ensures in
    let gates = rw (c.is_given-gates.ensures, c.field-2.ensures) at c.put_left_out_if-7.ensures in
    let claims = rw (c.is_given-claims.ensures, c.field-3.ensures) at c.put_left_out_if-8.ensures in
    behind _ _ _ (behind _ _ _ (behind _ _ _ (behind _ _ _ (behind _ _ _ (behind _ _ _ (behind _ _ _ selector nodes) beside) apart) read) spread) gates) claims
