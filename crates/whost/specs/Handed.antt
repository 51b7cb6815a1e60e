-- Which record each host function hands over.
use Rattle.std.specs.Prelude.{◌≡◌, ℕ, zero, suc, Bool, true, false, List, Option, Some, None}
use Rattle.quant.specs.declared.amount.Res.{Res}
use Rattle.quant.specs.declared.objects.Node.{Node}
use Rattle.quant.specs.declared.objects.Pod.{Pod}
use Rattle.whost.specs.declared.records.Records.{Records}
use Rattle.whost.specs.declared.records.Versions.{Versions}
use Rattle.whost.specs.declared.sight.Shows.{Shows}
use Rattle.whost.specs.declared.sight.Shows.TheVariants.{All, ThisPod, Class, ClassAndRow, ClassAndNode}
use Rattle.row_record.specs.Record.{pod_bytes, pod_bytes2, pod_bytes3, node_bytes, node_bytes2, node_bytes3}

-- by the number of the function: 0 is `sched.pod`, 1 is `sched.node`, 2 is `sched2.pod`, 3 is
-- `sched2.node`, 4 is `sched3.pod`, 5 is `sched3.node`
abbrev pub record_of : Records → ℕ → Option (List ℕ)
record_of records zero = Some records.pod.first
record_of records (suc zero) = Some records.node.first
record_of records (suc (suc zero)) = Some records.pod.second
record_of records (suc (suc (suc zero))) = Some records.node.second
record_of records (suc (suc (suc (suc zero)))) = Some records.pod.third
record_of records (suc (suc (suc (suc (suc zero))))) = Some records.node.third
record_of records (suc (suc (suc (suc (suc (suc n)))))) = None

-- a pod's records, and those of a node on which pods use so much
abbrev pub pod_records : Pod → Versions
pod_records pod = record { first = pod_bytes pod; second = pod_bytes2 pod; third = pod_bytes3 pod }

abbrev pub node_records : Node → (used : Res) → Versions
node_records node used = record { first = node_bytes node used; second = node_bytes2 node used; third = node_bytes3 node }

-- what a module is told of a pod and a node
abbrev pub told_of : Pod → Node → (used : Res) → Records
told_of pod node used = record { pod = pod_records pod; node = node_records node used }

-- whether a function's record is among what is shown of the records
abbrev pub gives : Shows → ℕ → Bool
gives All import = true
gives ThisPod zero = true
gives ThisPod (suc (suc zero)) = true
gives ThisPod (suc (suc (suc (suc zero)))) = true
gives ThisPod _ = false
gives Class (suc (suc (suc (suc zero)))) = true
gives Class _ = false
gives ClassAndRow (suc (suc (suc (suc n)))) = true
gives ClassAndRow _ = false
gives ClassAndNode zero = false
gives ClassAndNode (suc (suc zero)) = false
gives ClassAndNode _ = true

-- as far as they are shown, records are alike
abbrev pub LookAlike : Shows → (one other : Records) → Type 0
LookAlike shows one other = (import : ℕ) → gives shows import ≡ true → record_of one import ≡ record_of other import
