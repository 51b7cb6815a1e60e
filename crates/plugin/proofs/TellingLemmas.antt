-- Of which pod and node the records are that plugins are told by.
use Rattle.std.proofs.Common.{◌≡◌, List, ℕ, Option, Some, None, IfSome, sym, ap, subst, ◌∙◌}
use Rattle.quant.specs.declared.amount.Res.{Res}
use Rattle.quant.specs.declared.objects.Node.{Node}
use Rattle.quant.specs.declared.objects.Pod.{Pod}
use Rattle.whost.specs.declared.records.Versions.{Versions}
use Rattle.whost.specs.Handed.{pod_records, node_records}
use Rattle.row_record.specs.Record.{pod_bytes3}
use Rattle.whost.proofs.SamePod.{same_pod}

-- of a node that was kept, if it was
pub kept_node : (own : Option Node) (node : Node) (used : Res) (records : Versions) → records ≡ node_records node used → IfSome own (λ n. n ≡ node) → IfSome own (λ n. records ≡ node_records n used)
kept_node None node used records is same = tt
kept_node (Some n) node used records is same = is ∙ ap (λ (n : Node). node_records n used) (sym same)

-- of the pod that was noted, where another has its uid and its record of version 3
pub noted_pod : (noted : Option (List ℕ)) (uid : List ℕ) (records : Versions) (pod : Pod) → noted ≡ Some uid → uid ≡ pod.uid → records.third ≡ pod_bytes3 pod
    → IfSome noted (λ u. (p : Pod) × (p.uid ≡ u) × (records ≡ pod_records p)) → records ≡ pod_records pod
noted_pod noted uid records pod there same third of =
    let p = subst (λ (o : Option (List ℕ)). IfSome o (λ u. (p : Pod) × (p.uid ≡ u) × (records ≡ pod_records p))) there of in
    p.2 ∙ same_pod p.0 pod (p.1 ∙ same) (sym (ap (λ (v : Versions). v.third) p.2) ∙ third)
