use Rattle.std.proofs.Common.{take, All}
use Rattle.std.specs.List.{AllZip}
use Rattle.plugin.specs.Plugins.{IsWeight}
use Rattle.plugin.specs.Kit.{ready_parts, IsAtImage, IsReadyOf}
use Rattle.plugin.proofs.instances.Instances.new.Given as goal

abbrev pub invariant-loop-place : goal.invariant-loop-place
invariant-loop-place l = record {
  made : AllZip IsReadyOf (take l.place l.plugins) (ready_parts l.members.items);
  weights : All (λ i. IsWeight i.ready.weight) l.members.items;
  images : All IsAtImage l.members.items;
}
