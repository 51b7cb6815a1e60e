use Rattle.std.proofs.Common.{◌≡◌, ◌*◌, ◌^◌, ◌≤◌, take}
use Rattle.objects.specs.Containers.{together}
use Rattle.objects.proofs.request.together.Given as goal

abbrev pub invariant-loop-container : goal.invariant-loop-container
invariant-loop-container l = record {
  value : l.sum ≡ together l.resource (take l.container-index l.containers);
  small : l.sum ≤ l.container-index * 2 ^ 44;
}
