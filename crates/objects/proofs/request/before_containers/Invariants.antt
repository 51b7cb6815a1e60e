use Rattle.std.proofs.Common.{◌≡◌, ◌*◌, ◌^◌, ◌≤◌, max, take, drop}
use Rattle.objects.specs.Containers.{going_on, peak}
use Rattle.objects.proofs.request.before_containers.Given as goal

abbrev pub invariant-loop-container : goal.invariant-loop-container
invariant-loop-container l = record {
  running : l.beside ≡ going_on l.resource (take l.container-index l.init);
  needed : max l.most (peak l.resource l.beside (drop l.container-index l.init)) ≡ peak l.resource 0 l.init;
  small_running : l.beside ≤ l.container-index * 2 ^ 44;
  small_needed : l.most ≤ l.container-index * 2 ^ 44;
}
