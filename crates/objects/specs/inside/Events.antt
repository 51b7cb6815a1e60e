-- Which events a line of a script can say: those whose names are names, and whose amounts and lists
-- are within its limits.
use Rattle.std.specs.Prelude.{◌≡◌, ◌^◌, ◌≤◌, pos, negsuc, int_le, Bool, true, ◌&&◌, List, [], ◌∷◌, ◌++◌, length}
use Rattle.quant.specs.Name.{is_name}
use Rattle.quant.specs.declared.limits.TheConstants.{MAX_LABELS, MAX_TAINTS, MAX_TOLERATIONS, MAX_PLACED}
use Rattle.quant.specs.declared.objects.Node.{Node}
use Rattle.quant.specs.declared.objects.Pod.{Pod}
use Rattle.quant.specs.declared.event.Event.{Event}
use Rattle.quant.specs.declared.event.Event.TheVariants.{NodeSet, NodeGone, PodPending, PodBound, PodGone}
use Rattle.objects.specs.Sayable.{says_label, says_taint, says_toleration, IsVersion}

-- each element passes a test beside those before it
abbrev pub each_beside : {A : Type 0} → (List A → A → Bool) → (before xs : List A) → Bool
each_beside passes before [] = true
each_beside passes before (x ∷ xs) = passes before x && each_beside passes (before ++ x ∷ []) xs

-- a row of a node
pub record IsNodeRow (node : Node) : Type 0 where
  pub name : is_name node.name ≡ true
  pub cpu : node.allocatable.cpu.0 ≤ 2 ^ 30
  pub memory : node.allocatable.mem.0 ≤ 2 ^ 44
  pub pods : node.allocatable.pods ≤ MAX_PLACED
  pub few_labels : length node.labels ≤ MAX_LABELS
  pub labels : each_beside says_label [] node.labels ≡ true
  pub few_taints : length node.taints ≤ MAX_TAINTS
  pub taints : each_beside says_taint [] node.taints ≡ true

-- a row of a pod that waits
pub record IsPodRow (pod : Pod) : Type 0 where
  pub uid : is_name pod.uid ≡ true
  pub low : int_le (negsuc 2147483647) pod.priority ≡ true
  pub high : int_le pod.priority (pos 2147483647) ≡ true
  pub few_labels : length pod.labels ≤ MAX_LABELS
  pub labels : each_beside says_label [] pod.labels ≡ true
  pub few_tolerations : length pod.tolerations ≤ MAX_TOLERATIONS
  pub tolerations : each_beside says_toleration [] pod.tolerations ≡ true

-- an event that a line can say
abbrev pub IsSayable : Event → Type 0
IsSayable (NodeSet version node) = IsVersion version × IsNodeRow node
IsSayable (NodeGone version name) = IsVersion version × (is_name name ≡ true)
IsSayable (PodPending version pod) = IsVersion version × IsPodRow pod
IsSayable (PodBound version uid node request) = IsVersion version × (is_name uid ≡ true) × (is_name node ≡ true)
IsSayable (PodGone version uid) = IsVersion version × (is_name uid ≡ true)
