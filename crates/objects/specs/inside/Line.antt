-- How a line of a script tells an event of the watch: as an object of JSON.
use Rattle.std.specs.Prelude.{ℕ, List, [], ◌∷◌, ◌++◌, codes, decimal, Option, Some, None}
use Rattle.std.specs.Fmt.{signed_decimal}
use Rattle.json.specs.Json.{Json, boolean, number, string, array, object, Items, no_items, item, no_members, member}
use Rattle.quant.specs.declared.amount.Cpu.{Cpu}
use Rattle.quant.specs.declared.amount.Bytes.{Bytes}
use Rattle.quant.specs.declared.amount.Request.{Request}
use Rattle.quant.specs.declared.objects.Label.{Label}
use Rattle.quant.specs.declared.taint.Taint.{Taint}
use Rattle.quant.specs.declared.taint.Toleration.{Toleration}
use Rattle.quant.specs.declared.taint.Effect.{Effect}
use Rattle.quant.specs.declared.taint.Effect.TheVariants.{NoSchedule, PreferNoSchedule, NoExecute}
use Rattle.quant.specs.declared.taint.Operator.{Operator}
use Rattle.quant.specs.declared.taint.Operator.TheVariants.{Equal, Exists}
use Rattle.quant.specs.declared.event.Event.{Event}
use Rattle.quant.specs.declared.event.Event.TheVariants.{NodeSet, NodeGone, PodPending, PodBound, PodGone}

-- amounts, as the API spells them
abbrev pub cpu_text : Cpu → List ℕ
cpu_text cpu = decimal cpu.0 ++ codes "m"

abbrev pub memory_text : Bytes → List ℕ
memory_text mem = decimal mem.0

abbrev pub effect_text : Effect → List ℕ
effect_text NoSchedule = codes "NoSchedule"
effect_text PreferNoSchedule = codes "PreferNoSchedule"
effect_text NoExecute = codes "NoExecute"

-- of a toleration, where no effect stands for every one
abbrev pub optional_effect_text : Option Effect → List ℕ
optional_effect_text None = []
optional_effect_text (Some effect) = effect_text effect

abbrev pub operator_text : Operator → List ℕ
operator_text Equal = codes "Equal"
operator_text Exists = codes "Exists"

-- an item that is an array of texts
abbrev pub texts : List (List ℕ) → Items
texts [] = no_items
texts (text ∷ more) = item (string text) (texts more)

abbrev pub label_json : Label → Json
label_json label = array (texts (label.key ∷ label.value ∷ []))

abbrev pub taint_json : Taint → Json
taint_json taint = array (texts (taint.key ∷ taint.value ∷ effect_text taint.effect ∷ []))

abbrev pub toleration_json : Toleration → Json
toleration_json t = array (texts (t.key ∷ operator_text t.operator ∷ t.value ∷ optional_effect_text t.effect ∷ []))

abbrev pub request_json : Request → Json
request_json request = array (texts (cpu_text request.cpu ∷ memory_text request.mem ∷ []))

-- an item for each element
abbrev pub items_json : {A : Type 0} → (A → Json) → List A → Items
items_json f [] = no_items
items_json f (x ∷ xs) = item (f x) (items_json f xs)

-- the object that tells an event
unfoldable pub line_json : Event → Json
line_json (NodeSet version node) = object (
    member (codes "op") (string (codes "node")) (
    member (codes "v") (number (decimal version.0)) (
    member (codes "name") (string node.name) (
    member (codes "cpu") (string (cpu_text node.allocatable.cpu)) (
    member (codes "mem") (string (memory_text node.allocatable.mem)) (
    member (codes "pods") (number (decimal node.allocatable.pods)) (
    member (codes "labels") (array (items_json label_json node.labels)) (
    member (codes "taints") (array (items_json taint_json node.taints)) (
    member (codes "unschedulable") (boolean node.unschedulable)
    no_members)))))))))
line_json (NodeGone version name) = object (
    member (codes "op") (string (codes "gone")) (
    member (codes "v") (number (decimal version.0)) (
    member (codes "name") (string name)
    no_members)))
line_json (PodPending version pod) = object (
    member (codes "op") (string (codes "pod")) (
    member (codes "v") (number (decimal version.0)) (
    member (codes "uid") (string pod.uid) (
    member (codes "priority") (number (signed_decimal pod.priority)) (
    member (codes "containers") (array (items_json request_json (pod.request ∷ []))) (
    member (codes "labels") (array (items_json label_json pod.labels)) (
    member (codes "tolerations") (array (items_json toleration_json pod.tolerations))
    no_members)))))))
line_json (PodBound version uid node request) = object (
    member (codes "op") (string (codes "bound")) (
    member (codes "v") (number (decimal version.0)) (
    member (codes "uid") (string uid) (
    member (codes "node") (string node) (
    member (codes "cpu") (string (cpu_text request.cpu)) (
    member (codes "mem") (string (memory_text request.mem))
    no_members))))))
line_json (PodGone version uid) = object (
    member (codes "op") (string (codes "deleted")) (
    member (codes "v") (number (decimal version.0)) (
    member (codes "uid") (string uid)
    no_members)))
