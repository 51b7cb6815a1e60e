-- What a pod asks for that no row tells: what it must have, without which it could be put where it
-- mustn't be, and what it only wishes (the Kubernetes pages "Assigning Pods to Nodes", "Pod
-- Topology Spread Constraints", "Pod Scheduling Readiness", "Dynamic Resource Allocation" and
-- "Volumes"). What it asks of nodes' labels, and of volumes that it claims, may be told by labels
-- beside its own.
use Rattle.std.specs.Prelude.{ℕ, ◌==◌, Bool, true, false, ◌&&◌, ◌||◌, not, List, [], ◌∷◌, ◌++◌, codes, decimal, bytes_eq, Option, Some, None, option_and_then, Result, Ok, Err, if◌then◌else◌}
use Rattle.std.specs.List.{list_any}
use Rattle.serde_json.specs.Data.{Data, Items, no_items, item, Members, no_members, member}
use Rattle.serde_json.specs.Find.{as_array, as_object, as_number, as_u64}
use Rattle.objects.specs.declared.quantity.Rounding.TheVariants.{Up}
use Rattle.objects.specs.declared.resource.Resource.TheVariants.{Memory}
use Rattle.objects.specs.LeftOut.{Fault, left_out, left_out_if}
use Rattle.objects.specs.Reading.{said, field, within, absent_or, is_given, has, spelled}
use Rattle.objects.specs.Amounts.{amount_of}

-- the texts that the items of an array give, of which none is given by an absent one
abbrev pub each_item : (Data → List ℕ) → Items → List ℕ
each_item f no_items = []
each_item f (item d rest) = f d ++ each_item f rest

-- what a field gives whose items are looked at, and what it gives where it is no array
abbrev pub array_gives : (Data → List ℕ) → (otherwise : List ℕ) → Option Data → List ℕ
array_gives f otherwise value = absent_or [] (λ v. absent_or otherwise (each_item f) (as_array v)) value

-- a part of an affinity
abbrev pub affinity : (kind part : List ℕ) → Data → Option Data
affinity kind part spec = option_and_then (within kind part) (field (codes "affinity") spec)

-- whether a spread is one that a pod can do without
abbrev pub is_wished : Data → Bool
is_wished spread = bytes_eq (spelled (codes "whenUnsatisfiable") spread) (codes "ScheduleAnyway")

-- whether one of the spreads is such, or isn't
abbrev pub has_spread : (wished : Bool) → Items → Bool
has_spread wished no_items = false
has_spread wished (item d rest) = (if wished then is_wished d else not (is_wished d)) || has_spread wished rest

-- (spreads that are no array are none that a pod can do without)
abbrev pub asks_spread : (wished : Bool) → Option Data → Bool
asks_spread wished value = absent_or false (λ v. absent_or (not wished) (has_spread wished) (as_array v)) value

-- whether an object's members have no names but these
abbrev pub is_one_of : (names : List (List ℕ)) → (key : List ℕ) → Bool
is_one_of names key = list_any (λ name. bytes_eq name key) names

abbrev pub has_only : (names : List (List ℕ)) → Members → Bool
has_only names no_members = true
has_only names (member key value rest) = is_one_of names key && has_only names rest

-- whether an affinity is of nothing but the kinds and the parts that are looked at here
abbrev pub kinds : List (List ℕ)
kinds = codes "nodeAffinity" ∷ codes "podAffinity" ∷ codes "podAntiAffinity" ∷ []

abbrev pub parts : List (List ℕ)
parts = codes "requiredDuringSchedulingIgnoredDuringExecution" ∷ codes "preferredDuringSchedulingIgnoredDuringExecution" ∷ []

abbrev pub are_parts_if : Option Data → Bool
are_parts_if value = absent_or true (λ v. absent_or false (has_only parts) (as_object v)) value

unfoldable pub is_read_kind : (key : List ℕ) → Data → Bool
is_read_kind key value = is_one_of kinds key && are_parts_if (said value)

abbrev pub has_kinds : Members → Bool
has_kinds no_members = true
has_kinds (member key value rest) = is_read_kind key value && has_kinds rest

abbrev pub is_read_affinity : Option Data → Bool
is_read_affinity value = absent_or true (λ v. absent_or false has_kinds (as_object v)) value

-- kinds of volumes that tie a pod to no node; any other may, as a claim or a disk does
abbrev pub free : List (List ℕ)
free =
    codes "name" ∷ codes "configMap" ∷ codes "secret" ∷ codes "emptyDir" ∷ codes "hostPath" ∷ codes "projected"
    ∷ codes "downwardAPI" ∷ codes "csi" ∷ codes "nfs" ∷ codes "image" ∷ []

-- and those that are claimed
unfoldable pub free_or_claimed : List (List ℕ)
free_or_claimed = codes "persistentVolumeClaim" ∷ codes "ephemeral" ∷ free

abbrev pub is_tied : (kinds : List (List ℕ)) → Option Members → Bool
is_tied kinds members = absent_or true (λ ms. not (has_only kinds ms)) members

unfoldable pub volume : (kinds : List (List ℕ)) → Data → List ℕ
volume kinds json = if is_tied kinds (as_object json) then left_out (codes "volume ") (spelled (codes "name") json) else []

-- a port of the node itself, which 0 is not
abbrev pub node_port : Option ℕ → List ℕ
node_port None = left_out (codes "host port ") []
node_port (Some n) = if n == 0 then [] else left_out (codes "host port ") (decimal n)

unfoldable pub host_port : Data → List ℕ
host_port port = absent_or [] (λ v. node_port (option_and_then as_u64 (as_number v))) (field (codes "hostPort") port)

-- resources beyond CPU and memory, but for those that were named before
abbrev pub is_reckoned : (resource : List ℕ) → Bool
is_reckoned resource = bytes_eq resource (codes "cpu") || bytes_eq resource (codes "memory")

-- an amount of nothing
abbrev pub is_none : Result ℕ Fault → Bool
is_none (Ok amount) = amount == 0
is_none (Err e) = false

unfoldable pub is_nothing : Data → Bool
is_nothing value = is_none (amount_of Up Memory (Some value))

abbrev pub other_resource : (is_named : List ℕ → Bool) → (resource : List ℕ) → Data → List ℕ
other_resource is_named resource value =
    if is_reckoned resource || is_named resource || is_nothing value then [] else left_out (codes "resource ") resource

abbrev pub other_resources : (is_named : List ℕ → Bool) → Members → List ℕ
other_resources is_named no_members = []
other_resources is_named (member key value rest) = other_resource is_named key value ++ other_resources is_named rest

abbrev pub object_gives : (is_named : List ℕ → Bool) → Option Data → List ℕ
object_gives is_named value = absent_or [] (λ v. absent_or (left_out (codes "resources") []) (other_resources is_named) (as_object v)) value

abbrev pub resources_of : Option Data → List ℕ
resources_of None = []
resources_of (Some resources) =
    object_gives (has None) (field (codes "requests") resources) ++ object_gives (has (field (codes "requests") resources)) (field (codes "limits") resources)

-- what a container asks for that no row tells
unfoldable pub container : Data → List ℕ
container json = array_gives host_port (left_out (codes "host port ") []) (field (codes "ports") json) ++ resources_of (field (codes "resources") json)

-- (containers that can't be read are told where the request is reckoned)
abbrev pub containers : (key : List ℕ) → Data → List ℕ
containers key spec = array_gives container [] (field key spec)

-- what a pod's spec must have of its node and of other pods
unfoldable pub placement : (is_told : Bool) → Data → List ℕ
placement is_told spec =
    left_out_if (not is_told && is_given (field (codes "nodeSelector") spec)) (codes "node selector")
    ++ left_out_if (not is_told && is_given (affinity (codes "nodeAffinity") (codes "requiredDuringSchedulingIgnoredDuringExecution") spec)) (codes "required node affinity")
    ++ left_out_if (is_given (affinity (codes "podAffinity") (codes "requiredDuringSchedulingIgnoredDuringExecution") spec)) (codes "required pod affinity")
    ++ left_out_if (is_given (affinity (codes "podAntiAffinity") (codes "requiredDuringSchedulingIgnoredDuringExecution") spec)) (codes "required pod anti-affinity")
    ++ left_out_if (not (is_read_affinity (field (codes "affinity") spec))) (codes "affinity")
    ++ left_out_if (asks_spread false (field (codes "topologySpreadConstraints") spec)) (codes "required topology spread")

-- the fields of a spec that are told or looked at, and those that tie a pod to no node: how its
-- processes run, how they are known on the network, and in whose name and before whom (the
-- Kubernetes API reference, "PodSpec")
abbrev pub known : List (List ℕ)
known =
    codes "affinity" ∷ codes "containers" ∷ codes "initContainers" ∷ codes "nodeName" ∷ codes "nodeSelector" ∷ codes "overhead"
    ∷ codes "priority" ∷ codes "resourceClaims" ∷ codes "resources" ∷ codes "schedulerName" ∷ codes "schedulingGates" ∷ codes "tolerations"
    ∷ codes "topologySpreadConstraints" ∷ codes "volumes" ∷ codes "activeDeadlineSeconds" ∷ codes "ephemeralContainers" ∷ codes "hostIPC"
    ∷ codes "hostPID" ∷ codes "hostUsers" ∷ codes "os" ∷ codes "restartPolicy" ∷ codes "runtimeClassName" ∷ codes "securityContext"
    ∷ codes "shareProcessNamespace" ∷ codes "terminationGracePeriodSeconds" ∷ codes "dnsConfig" ∷ codes "dnsPolicy"
    ∷ codes "enableServiceLinks" ∷ codes "hostAliases" ∷ codes "hostNetwork" ∷ codes "hostname" ∷ codes "hostnameOverride"
    ∷ codes "readinessGates" ∷ codes "setHostnameAsFQDN" ∷ codes "subdomain" ∷ codes "automountServiceAccountToken"
    ∷ codes "imagePullSecrets" ∷ codes "preemptionPolicy" ∷ codes "priorityClassName" ∷ codes "serviceAccount"
    ∷ codes "serviceAccountName" ∷ []

abbrev pub is_known : (key : List ℕ) → Bool
is_known key = is_one_of known key

-- any other field may tie it, where something stands in it
unfoldable pub other_field : (key : List ℕ) → Data → List ℕ
other_field key value = if is_known key || not (is_given (said value)) then [] else left_out (codes "field ") key

abbrev pub other_fields : Members → List ℕ
other_fields no_members = []
other_fields (member key value rest) = other_field key value ++ other_fields rest

abbrev pub fields_of : Option Members → List ℕ
fields_of members = absent_or [] other_fields members

-- what it must have, where what it asks of nodes' labels and of volumes that it claims is told, or
-- isn't
unfoldable pub demands : (is_told : Bool) → Data → List ℕ
demands is_told spec =
    placement is_told spec
    ++ left_out_if (is_given (field (codes "schedulingGates") spec)) (codes "scheduling gates")
    ++ left_out_if (is_given (field (codes "resourceClaims") spec)) (codes "resource claims")
    ++ array_gives (volume (if is_told then free_or_claimed else free)) (left_out (codes "volume ") []) (field (codes "volumes") spec)
    ++ containers (codes "containers") spec
    ++ containers (codes "initContainers") spec
    ++ object_gives (has None) (field (codes "overhead") spec)
    ++ fields_of (as_object spec)

-- what it can do without
unfoldable pub wishes : (is_told : Bool) → Data → List ℕ
wishes is_told spec =
    left_out_if (not is_told && is_given (affinity (codes "nodeAffinity") (codes "preferredDuringSchedulingIgnoredDuringExecution") spec)) (codes "preferred node affinity")
    ++ left_out_if (is_given (affinity (codes "podAffinity") (codes "preferredDuringSchedulingIgnoredDuringExecution") spec)) (codes "preferred pod affinity")
    ++ left_out_if (is_given (affinity (codes "podAntiAffinity") (codes "preferredDuringSchedulingIgnoredDuringExecution") spec)) (codes "preferred pod anti-affinity")
    ++ left_out_if (asks_spread true (field (codes "topologySpreadConstraints") spec)) (codes "preferred topology spread")
