-- The rules at worked examples, the first of them those of the Kubernetes page "Taints and
-- Tolerations".
use Rattle.std.specs.Prelude.{◌≡◌, ℕ, Bool, true, false, List, [], ◌∷◌, Option, Some, None, codes, pos}
use Rattle.std.proofs.Common.{lit≤}
use Rattle.quant.specs.declared.objects.Node.{Node}
use Rattle.quant.specs.declared.objects.Pod.{Pod}
use Rattle.quant.specs.declared.taint.Taint.{Taint}
use Rattle.quant.specs.declared.taint.Toleration.{Toleration}
use Rattle.quant.specs.declared.taint.Effect.{Effect}
use Rattle.quant.specs.declared.taint.Effect.TheVariants.{NoSchedule, PreferNoSchedule, NoExecute}
use Rattle.quant.specs.declared.taint.Operator.{Operator}
use Rattle.quant.specs.declared.taint.Operator.TheVariants.{Equal, Exists}
use Rattle.taints.specs.declared.tolerance.Rejection.TheVariants.{Marked, Tainted}
use Rattle.taints.specs.Tolerance.{tolerated_by, rejection, first_untolerated, prefer_not}
use Rattle.taints.specs.TaintScore.{taint_score}

abbrev pub taint : (key value : List ℕ) → Effect → Taint
taint key value effect = record { key = key; value = value; effect = effect }

abbrev pub toleration : (key : List ℕ) → Operator → (value : List ℕ) → Option Effect → Toleration
toleration key operator value effect = record { key = key; operator = operator; value = value; effect = effect }

-- a node with these taints, and the mark that keeps new pods off or not
abbrev pub node_with : List Taint → Bool → Node
node_with taints unschedulable =
    record {
      name = codes "a";
      allocatable = record { cpu = record { 0 = 0 }; mem = record { 0 = 0 }; pods = 0 };
      labels = [];
      taints = taints;
      unschedulable = unschedulable;
    }

-- a pod with these tolerations
abbrev pub pod_with : List Toleration → Pod
pod_with tolerations =
    record {
      uid = codes "p1";
      priority = pos 0;
      request = record { cpu = record { 0 = 0 }; mem = record { 0 = 0 }; within_cpu = lit≤ tt; within_mem = lit≤ tt };
      labels = [];
      tolerations = tolerations;
    }

abbrev pub key1 : Taint
key1 = taint (codes "key1") (codes "value1") NoSchedule

abbrev pub equal_key1 : Option Effect → Toleration
equal_key1 effect = toleration (codes "key1") Equal (codes "value1") effect

-- the page's node with three taints
abbrev pub three_taints : List Taint
three_taints =
    key1 ∷ taint (codes "key1") (codes "value1") NoExecute ∷ taint (codes "key2") (codes "value2") NoSchedule ∷ []

abbrev pub two_tolerations : List Toleration
two_tolerations = equal_key1 (Some NoSchedule) ∷ equal_key1 (Some NoExecute) ∷ []

-- a node that is less preferred
abbrev pub less_preferred : Node
less_preferred = node_with (taint (codes "k") (codes "v") NoExecute ∷ taint (codes "s") [] PreferNoSchedule ∷ []) false

abbrev pub every_execution : List Toleration
every_execution = toleration [] Exists [] (Some NoExecute) ∷ []

abbrev pub everything : List Toleration
everything = toleration [] Exists [] None ∷ []

-- a node that takes no new pods
abbrev pub marked : Node
marked = node_with (taint (codes "k") (codes "v") NoSchedule ∷ []) true

abbrev pub tolerates_mark : List Toleration
tolerates_mark = toleration (codes "node.kubernetes.io/unschedulable") Exists [] (Some NoSchedule) ∷ []

pub record WorkedExamples : Type 0 where
  -- one toleration and one taint
  pub equal : tolerated_by key1 (equal_key1 (Some NoSchedule)) ≡ true
  pub exists : tolerated_by key1 (toleration (codes "key1") Exists [] (Some NoSchedule)) ≡ true
  pub other_value : tolerated_by key1 (toleration (codes "key1") Equal (codes "value2") (Some NoSchedule)) ≡ false
  pub other_key : tolerated_by key1 (toleration (codes "key2") Exists [] (Some NoSchedule)) ≡ false
  pub other_effect : tolerated_by key1 (toleration (codes "key1") Exists [] (Some NoExecute)) ≡ false
  pub every_effect : tolerated_by key1 (equal_key1 None) ≡ true
  pub every_key : tolerated_by key1 (toleration [] Exists [] (Some NoSchedule)) ≡ true
  pub no_key : tolerated_by key1 (toleration [] Equal (codes "value1") None) ≡ false
  -- three taints and two tolerations: the third taint rejects
  pub third_taint : rejection (node_with three_taints false) (pod_with two_tolerations) ≡ Some Tainted
  pub third_is_first : first_untolerated (node_with three_taints false) (pod_with two_tolerations) ≡ Some (taint (codes "key2") (codes "value2") NoSchedule)
  pub two_taints : rejection (node_with (key1 ∷ taint (codes "key1") (codes "value1") NoExecute ∷ []) false) (pod_with two_tolerations) ≡ None
  -- a node that is less preferred
  pub bare : rejection less_preferred (pod_with []) ≡ Some Tainted
  pub stays : rejection less_preferred (pod_with every_execution) ≡ None
  pub counted : prefer_not less_preferred (pod_with every_execution) ≡ 1
  pub tolerant : rejection less_preferred (pod_with everything) ≡ None
  pub none_untolerated : first_untolerated less_preferred (pod_with every_execution) ≡ None
  pub not_counted : prefer_not less_preferred (pod_with everything) ≡ 0
  -- a marked node: the mark is told before a taint
  pub mark_first : rejection marked (pod_with []) ≡ Some Marked
  pub taint_then : rejection marked (pod_with tolerates_mark) ≡ Some Tainted
  pub mark_alone : rejection marked (pod_with (toleration (codes "k") Exists [] None ∷ [])) ≡ Some Marked
  pub both_tolerated : rejection marked (pod_with everything) ≡ None
  -- scores
  pub one_of_three : taint_score 1 3 ≡ 67
  pub none_anywhere : taint_score 0 0 ≡ 100
  pub none_here : taint_score 0 3 ≡ 100
  pub the_most : taint_score 8 8 ≡ 0
