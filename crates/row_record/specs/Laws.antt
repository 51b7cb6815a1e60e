-- What holds of the order of labels, of numbers in a record, and of where its fields stand.
use Rattle.std.specs.Prelude.{◌≡◌, ℕ, ◌+◌, ◌^◌, ◌<◌, List, [], ◌∷◌, ◌++◌, length, take, drop}
use Rattle.std.specs.Ordering.{nat_cmp}
use Rattle.std.specs.Int.{cast_unsigned, w32}
use Rattle.std.specs.Cmp.Lexicographic.{slice_cmp}
use Rattle.std.specs.List.Sorted.{IsPermutation, IsSortedByKey}
use Rattle.byteorder.specs.Endian.{little_number}
use Rattle.quant.specs.declared.amount.Res.{Res}
use Rattle.quant.specs.declared.objects.Label.{Label}
use Rattle.quant.specs.declared.objects.Node.{Node}
use Rattle.quant.specs.declared.objects.Pod.{Pod}
use Rattle.row_record.specs.KeyOrder.{in_key_order}
use Rattle.row_record.specs.Record.{number_field, text_field, mark_field, amounts_field, labels_field, pod_bytes, node_bytes}

-- the labels in order are the same labels, and no key comes before the one in front of it
pub record LabelsAreInOrder : Type 0 where
  pub same : (labels : List Label) → IsPermutation labels (in_key_order labels)
  pub rising : (labels : List Label) → IsSortedByKey (λ label. label.key) (slice_cmp nat_cmp) (in_key_order labels)

-- a number that fits its bytes is read back from them, whatever stands behind
abbrev pub NumbersAreReadBack : Type 0
NumbersAreReadBack = (count number : ℕ) (rest : List ℕ) → number < 256 ^ count → little_number count (number_field count number ++ rest) ≡ number

-- the bytes from an offset on begin with a field
abbrev pub Stands : List ℕ → (offset : ℕ) → (field : List ℕ) → Type 0
Stands bytes offset field = take (length field) (drop offset bytes) ≡ field

-- where the fields of a pod's record stand
pub record PodFieldsStand (pod : Pod) : Type 0 where
  pub version : Stands (pod_bytes pod) 0 (1 ∷ [])
  pub kind : Stands (pod_bytes pod) 1 (1 ∷ [])
  pub uid : Stands (pod_bytes pod) 2 (text_field pod.uid)
  pub priority : Stands (pod_bytes pod) (length pod.uid + 3) (number_field 4 (cast_unsigned w32 pod.priority))
  pub cpu : Stands (pod_bytes pod) (length pod.uid + 7) (number_field 8 pod.request.cpu.0)
  pub mem : Stands (pod_bytes pod) (length pod.uid + 15) (number_field 8 pod.request.mem.0)
  pub labels : Stands (pod_bytes pod) (length pod.uid + 23) (labels_field pod.labels)

-- where the fields of a node's record stand
pub record NodeFieldsStand (node : Node) (used : Res) : Type 0 where
  pub version : Stands (node_bytes node used) 0 (1 ∷ [])
  pub kind : Stands (node_bytes node used) 1 (2 ∷ [])
  pub name : Stands (node_bytes node used) 2 (text_field node.name)
  pub mark : Stands (node_bytes node used) (length node.name + 3) (mark_field node.unschedulable)
  pub allocatable : Stands (node_bytes node used) (length node.name + 4) (amounts_field node.allocatable)
  pub occupied : Stands (node_bytes node used) (length node.name + 24) (amounts_field used)
  pub labels : Stands (node_bytes node used) (length node.name + 44) (labels_field node.labels)
