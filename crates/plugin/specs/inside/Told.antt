-- Of which pod and node the records are by which plugins are told.
use Rattle.std.specs.Prelude.{◌≡◌, IfSome}
use Rattle.quant.specs.declared.objects.Pod.{Pod}
use Rattle.whost.specs.Handed.{pod_records, node_records}
use Rattle.plugin.specs.declared.told.Told.TheInside.{Inside}

-- the pod's are of one that has the uid that was noted, and the node's of the node that was noted
-- and of what was used of it
pub record AreOf (t : Inside) : Type 0 where
  pub pod : IfSome t.uid (λ uid. (pod : Pod) × (pod.uid ≡ uid) × (t.records.pod ≡ pod_records pod))
  pub node : IfSome t.node (λ node. t.records.node ≡ node_records node t.used)
