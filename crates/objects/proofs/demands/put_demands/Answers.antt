use Rattle.objects.specs.Demands.{demands}
use Rattle.objects.proofs.Puts.{behind}
use Rattle.objects.proofs.demands.put_demands.Goals as goal

pub returns : goal.returns
unfolding demands
returns c =
    let overhead = rw c.field.ensures at c.put_members.ensures in
    behind _ _ _ (behind _ _ _ (behind _ _ _ (behind _ _ _ (behind _ _ _ c.put_placement.ensures c.put_volumes.ensures) c.put_list.ensures) c.put_list-2.ensures) overhead) c.put_fields.ensures
