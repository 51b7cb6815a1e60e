-- The records that host functions hand over: what a module may know of a pod and of a node. In
-- version 2 a list stands behind what version 1 tells: a pod's tolerations, a node's taints.
-- Version 3 tells what version 2 does of a pod without its uid and of a node of which nothing is
-- used: what many pods share, and what stays of a node while pods come and go.
use Rattle.std.specs.Prelude.{ℕ, ◌+◌, Bool, true, false, List, [], ◌∷◌, ◌++◌, Option, Some, None, length, sum_by}
use Rattle.std.specs.Int.{cast_unsigned, w32}
use Rattle.std.specs.List.{flat_map}
use Rattle.byteorder.specs.Endian.{little_bytes}
use Rattle.quant.specs.declared.amount.Res.{Res}
use Rattle.quant.specs.declared.objects.Label.{Label}
use Rattle.quant.specs.declared.objects.Node.{Node}
use Rattle.quant.specs.declared.objects.Pod.{Pod}
use Rattle.quant.specs.declared.taint.Effect.{Effect}
use Rattle.quant.specs.declared.taint.Effect.TheVariants.{NoSchedule, PreferNoSchedule, NoExecute}
use Rattle.quant.specs.declared.taint.Operator.{Operator}
use Rattle.quant.specs.declared.taint.Operator.TheVariants.{Equal, Exists}
use Rattle.quant.specs.declared.taint.Taint.{Taint}
use Rattle.quant.specs.declared.taint.Toleration.{Toleration}
use Rattle.row_record.specs.KeyOrder.{in_key_order}

-- the first byte of every record
abbrev pub first_version : ℕ
first_version = 1

abbrev pub second_version : ℕ
second_version = 2

abbrev pub third_version : ℕ
third_version = 3

-- the second byte tells what the record is of
abbrev pub kind_pod : ℕ
kind_pod = 1

abbrev pub kind_node : ℕ
kind_node = 2

-- a number in so many bytes, the lowest byte first
unfoldable pub number_field : (count number : ℕ) → List ℕ
number_field count number = little_bytes count number

-- a text: its length in one byte, and its bytes
abbrev pub text_field : List ℕ → List ℕ
text_field text = length text ∷ text

-- a mark: 1 where it is set, and 0 where it isn't
abbrev pub mark_field : Bool → List ℕ
mark_field true = 1 ∷ []
mark_field false = 0 ∷ []

-- amounts, 20 bytes: thousandths of a core (8), bytes of memory (8), pods (4)
abbrev pub amounts_field : Res → List ℕ
amounts_field amounts =
    number_field 8 amounts.cpu.0 ++ number_field 8 amounts.mem.0 ++ number_field 4 amounts.pods

-- a label: key and value, each a text
abbrev pub label_field : Label → List ℕ
label_field label = text_field label.key ++ text_field label.value

-- labels: how many there are in one byte, and each, in rising order of the keys' bytes
abbrev pub labels_field : List Label → List ℕ
labels_field labels = length labels ∷ flat_map label_field (in_key_order labels)

-- an effect; 0 where a toleration has none, and so stands for every effect
abbrev pub effect_code : Option Effect → ℕ
effect_code None = 0
effect_code (Some NoSchedule) = 1
effect_code (Some PreferNoSchedule) = 2
effect_code (Some NoExecute) = 3

-- how a toleration's value is compared
abbrev pub operator_code : Operator → ℕ
operator_code Equal = 1
operator_code Exists = 2

-- a taint: key and value, each a text, and its effect
abbrev pub taint_field : Taint → List ℕ
taint_field taint = text_field taint.key ++ text_field taint.value ++ effect_code (Some taint.effect) ∷ []

-- a toleration: key, operator, value, effect
abbrev pub toleration_field : Toleration → List ℕ
toleration_field toleration =
    text_field toleration.key
    ++ operator_code toleration.operator ∷ text_field toleration.value
    ++ effect_code toleration.effect ∷ []

-- taints, and tolerations: how many there are in one byte, and each, in the order of the row
abbrev pub taints_field : List Taint → List ℕ
taints_field taints = length taints ∷ flat_map taint_field taints

abbrev pub tolerations_field : List Toleration → List ℕ
tolerations_field tolerations = length tolerations ∷ flat_map toleration_field tolerations

-- What both versions tell of a pod. Behind each field stands its offset in the record where the uid
-- has n bytes.
abbrev pub pod_fields : Pod → List ℕ
pod_fields pod =
    kind_pod  -- 1
    ∷ text_field pod.uid  -- 2
    ++ number_field 4 (cast_unsigned w32 pod.priority)  -- n + 3, two's complement
    ++ number_field 8 pod.request.cpu.0  -- n + 7
    ++ number_field 8 pod.request.mem.0  -- n + 15
    ++ labels_field pod.labels  -- n + 23

-- What both versions tell of a node, with what the pods on it use. Behind each field stands its
-- offset in the record where the name has n bytes.
abbrev pub node_fields : Node → (used : Res) → List ℕ
node_fields node used =
    kind_node  -- 1
    ∷ text_field node.name  -- 2
    ++ mark_field node.unschedulable  -- n + 3
    ++ amounts_field node.allocatable  -- n + 4
    ++ amounts_field used  -- n + 24
    ++ labels_field node.labels  -- n + 44

-- a pod's record of version 1, and of version 2
unfoldable pub pod_bytes : Pod → List ℕ
pod_bytes pod = first_version ∷ pod_fields pod

unfoldable pub pod_bytes2 : Pod → List ℕ
pod_bytes2 pod = second_version ∷ pod_fields pod ++ tolerations_field pod.tolerations

-- a node's record of version 1, and of version 2
unfoldable pub node_bytes : Node → (used : Res) → List ℕ
node_bytes node used = first_version ∷ node_fields node used

unfoldable pub node_bytes2 : Node → (used : Res) → List ℕ
node_bytes2 node used = second_version ∷ node_fields node used ++ taints_field node.taints

-- a pod without its uid: pods that differ in nothing else are one then
abbrev pub without_uid : Pod → Pod
without_uid pod = record pod { uid = [] }

-- nothing is used
abbrev pub nothing_used : Res
nothing_used = record { cpu = record { 0 = 0 }; mem = record { 0 = 0 }; pods = 0 }

-- a pod's record of version 3, and a node's
unfoldable pub pod_bytes3 : Pod → List ℕ
pod_bytes3 pod = third_version ∷ pod_fields (without_uid pod) ++ tolerations_field pod.tolerations

unfoldable pub node_bytes3 : Node → List ℕ
node_bytes3 node = third_version ∷ node_fields node nothing_used ++ taints_field node.taints

-- how many bytes labels take
abbrev pub labels_size : List Label → ℕ
labels_size labels = 1 + sum_by (λ label. 2 + length label.key + length label.value) labels

-- how many bytes taints take, and tolerations
abbrev pub taints_size : List Taint → ℕ
taints_size taints = 1 + sum_by (λ taint. 3 + length taint.key + length taint.value) taints

abbrev pub tolerations_size : List Toleration → ℕ
tolerations_size tolerations = 1 + sum_by (λ toleration. 4 + length toleration.key + length toleration.value) tolerations

-- how many bytes a pod's record of version 1 has; that of version 2 has those of the list more
abbrev pub pod_size : Pod → ℕ
pod_size pod = 23 + length pod.uid + labels_size pod.labels

-- how many bytes a node's record of version 1 has; that of version 2 has those of the list more
abbrev pub node_size : Node → ℕ
node_size node = 44 + length node.name + labels_size node.labels
