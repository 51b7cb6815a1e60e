-- Which taints a pod tolerates, and which keep it off a node (Kubernetes, "Taints and Tolerations",
-- "Concepts").
use Rattle.std.specs.Prelude.{ℕ, Bool, true, false, ◌&&◌, ◌||◌, not, if◌then◌else◌, List, [], Option, Some, None, codes, bytes_eq, count_by}
use Rattle.std.specs.List.{list_any, find}
use Rattle.quant.specs.declared.objects.Node.{Node}
use Rattle.quant.specs.declared.objects.Pod.{Pod}
use Rattle.quant.specs.declared.taint.Taint.{Taint}
use Rattle.quant.specs.declared.taint.Toleration.{Toleration}
use Rattle.quant.specs.declared.taint.Effect.{Effect}
use Rattle.quant.specs.declared.taint.Effect.TheVariants.{NoSchedule, PreferNoSchedule, NoExecute}
use Rattle.quant.specs.declared.taint.Operator.{Operator}
use Rattle.quant.specs.declared.taint.Operator.TheVariants.{Equal, Exists}
use Rattle.quant.specs.Effect.{same_effect}
use Rattle.taints.specs.declared.tolerance.Rejection.{Rejection}
use Rattle.taints.specs.declared.tolerance.Rejection.TheVariants.{Marked, Tainted}

-- `Exists` takes every value
abbrev pub takes_every_value : Operator → Bool
takes_every_value Equal = false
takes_every_value Exists = true

-- no effect stands for every effect
abbrev pub takes_effect : Option Effect → Effect → Bool
takes_effect None effect = true
takes_effect (Some own) effect = same_effect own effect

-- a toleration matches a taint with this key, value and effect: the keys are equal, or the
-- toleration's is empty and its operator `Exists`; the operator is `Exists`, or the values are
-- equal; and the toleration has the taint's effect or none
abbrev pub matches : Toleration → (key value : List ℕ) → Effect → Bool
matches toleration key value effect =
    (bytes_eq toleration.key key || (bytes_eq toleration.key [] && takes_every_value toleration.operator))
    && (takes_every_value toleration.operator || bytes_eq toleration.value value)
    && takes_effect toleration.effect effect

-- a toleration tolerates a taint
unfoldable pub tolerated_by : Taint → Toleration → Bool
tolerated_by taint toleration = matches toleration taint.key taint.value taint.effect

-- one of the tolerations tolerates the taint
unfoldable pub tolerated : List Toleration → Taint → Bool
tolerated tolerations taint = list_any (tolerated_by taint) tolerations

-- a taint with this effect keeps off the pods that don't tolerate it
abbrev pub keeps_off : Effect → Bool
keeps_off NoSchedule = true
keeps_off PreferNoSchedule = false
keeps_off NoExecute = true

-- what a node that is marked unschedulable has, beside its own taints
abbrev pub unschedulable_mark : Taint
unschedulable_mark =
    record { key = codes "node.kubernetes.io/unschedulable"; value = []; effect = NoSchedule }

-- why a node's marks keep off a pod, if they do: its mark as unschedulable first, and then a taint
unfoldable pub rejection : Node → Pod → Option Rejection
rejection node pod =
    if node.unschedulable && not (tolerated pod.tolerations unschedulable_mark) then Some Marked
    else if list_any (λ taint. keeps_off taint.effect && not (tolerated pod.tolerations taint)) node.taints
    then Some Tainted
    else None

-- the first of a node's taints that keeps off a pod which doesn't tolerate it
unfoldable pub first_untolerated : Node → Pod → Option Taint
first_untolerated node pod = find (λ taint. keeps_off taint.effect && not (tolerated pod.tolerations taint)) node.taints

-- how many of a node's taints a pod doesn't tolerate, among those that only make the node less
-- preferred
unfoldable pub prefer_not : Node → Pod → ℕ
prefer_not node pod =
    count_by (λ taint. same_effect taint.effect PreferNoSchedule && not (tolerated pod.tolerations taint)) node.taints
