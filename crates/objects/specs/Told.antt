-- What an object of the API, or an event of its watch, gives a script (the Kubernetes API
-- reference, "Node", "Pod" and "Watch").
use Rattle.std.specs.Prelude.{ℕ, ◌==◌, Bool, true, false, ◌&&◌, ◌||◌, not, List, [], ◌∷◌, ◌++◌, length, nat_le, codes, bytes_eq, Option, Some, None, Result, Ok, Err, is_some, unwrap_or, option_and_then, if◌then◌else◌}
use Rattle.std.specs.List.{list_all}
use Rattle.std.specs.Option.{ok_or}
use Rattle.std.specs.Str.{is_utf8}
use Rattle.serde_json.specs.Data.{Data}
use Rattle.serde_json.specs.Find.{as_array, as_object, as_str}
use Rattle.serde_json.specs.Read.{read}
use Rattle.quant.specs.Name.{is_name}
use Rattle.quant.specs.declared.version.Version.{Version}
use Rattle.quant.specs.declared.event.Event.{Event}
use Rattle.quant.specs.declared.event.Event.TheVariants.{NodeSet, NodeGone, PodPending, PodBound, PodGone}
use Rattle.objects.specs.declared.change.Change.{Change}
use Rattle.objects.specs.declared.change.Change.TheVariants.{There, Changed, Gone}
use Rattle.objects.specs.declared.change.Kind.{Kind}
use Rattle.objects.specs.declared.change.Kind.TheVariants.{Node, Pod}
use Rattle.objects.specs.declared.fault.Why.TheVariants.{LongLine, NotJson, UnknownEvent, IsList, BadField}
use Rattle.objects.specs.declared.request.Reckoned.TheVariants.{Standing}
use Rattle.objects.specs.declared.translation.TheConstants.{MAX_OBJECT}
use Rattle.objects.specs.Quantity.{◌>>=◌}
use Rattle.objects.specs.LeftOut.{Fault, left_out, left_out_if, refused, fault_text}
use Rattle.objects.specs.Reading.{field, within, part_of, text_or, name_at, absent_or, is_given, spelled}
use Rattle.objects.specs.NodeRow.{node_row}
use Rattle.objects.specs.Demands.{affinity, demands}
use Rattle.objects.specs.PodRequest.{request, more_left_out, held_left_out}
use Rattle.objects.specs.PodRow.{pod_name, pod_row}
use Rattle.objects.specs.Labels.{Kept}
use Rattle.objects.specs.Site.{Site, Telling, telling}

-- the event that an object gives, or none, the names of what is left out of it, and whether it may
-- be a pod on a node that no line can count
pub record Told : Type 0 where
  pub event : Option Event
  pub left_out : List ℕ
  pub uncounted : Bool

-- what is told where it isn't that
abbrev pub saying : Option Event → (left_out : List ℕ) → Told
saying event left_out = record { event = event; left_out = left_out; uncounted = false }

-- the name by which a script calls an object, and that it is gone
abbrev pub name_in : Kind → (by_uid : Bool) → (meta : Data) → Result (List ℕ) Fault
name_in Node by_uid meta = name_at (codes "name") meta
name_in Pod by_uid meta = pod_name by_uid meta

abbrev pub name_of : Kind → (by_uid : Bool) → Data → Result (List ℕ) Fault
name_of kind by_uid json = part_of (codes "metadata") json >>= name_in kind by_uid

abbrev pub gone : Kind → Version → List ℕ → Event
gone Node version name = NodeGone version name
gone Pod version uid = PodGone version uid

-- of an object that is gone
abbrev pub gone_by : Kind → Version → Result (List ℕ) Fault → Told
gone_by kind version (Ok name) = saying (Some (gone kind version name)) []
gone_by kind version (Err e) = saying None (fault_text e)

abbrev pub gone_told : Telling → Kind → Data → Told
gone_told how kind json = gone_by kind how.version (name_of kind how.by_uid json)

-- of an object that isn't told any more as it has become: that it is gone, where its name can be
-- said
abbrev pub event_if : Kind → Version → Change → Result (List ℕ) Fault → Option Event
event_if kind version Changed (Ok name) = Some (gone kind version name)
event_if kind version _ name = None

abbrev pub gone_if : Telling → Kind → Data → (left_out : List ℕ) → Told
gone_if how kind json left_out = saying (event_if kind how.version how.change (name_of kind how.by_uid json)) left_out

-- of an object by its row
abbrev pub row_told : {A : Type 0} → (A → Event) → Telling → Kind → Data → Result (Kept A) Fault → Told
row_told event how kind json (Ok row) = saying (Some (event row.item)) row.left_out
row_told event how kind json (Err e) = gone_if how kind json (fault_text e)

-- what keeps a pod that waits from being told: that another scheduler is to place it, what it must
-- have, and that it is being deleted
abbrev pub scheduler_of : (spec : Data) → List ℕ
scheduler_of spec = if is_some (field (codes "schedulerName") spec) then spelled (codes "schedulerName") spec else codes "default-scheduler"

abbrev pub other_scheduler : (scheduler named : List ℕ) → List ℕ
other_scheduler scheduler named = if bytes_eq named scheduler then [] else left_out (codes "it is for the scheduler ") named

unfoldable pub kept_back : Site → (spec pod : Data) → List ℕ
kept_back site spec pod =
    other_scheduler site.scheduler (scheduler_of spec) ++ demands (is_some site.beside) spec
    ++ left_out_if (is_some (within (codes "metadata") (codes "deletionTimestamp") pod)) (codes "it is being deleted")

abbrev pub waiting_by : Telling → Data → (kept_back : List ℕ) → Told
waiting_by how json [] = row_told (PodPending how.version) how Pod json (pod_row how.site how.by_uid json)
waiting_by how json (x ∷ more) = gone_if how Pod json (x ∷ more)

unfoldable pub waiting_told : Telling → (spec pod : Data) → Told
waiting_told how spec pod = waiting_by how pod (kept_back how.site spec pod)

-- a pod that stands on a node is always counted: where no line can call it by a name, there is no
-- going on
abbrev pub bound_left_out : (spec pod : Data) → List ℕ
bound_left_out spec pod =
    more_left_out pod spec ++ held_left_out pod spec
    ++ left_out_if (is_given (affinity (codes "podAntiAffinity") (codes "requiredDuringSchedulingIgnoredDuringExecution") spec)) (codes "required pod anti-affinity")

unfoldable pub placed_told : Telling → (node : List ℕ) → (spec pod : Data) → Result Told Fault
placed_told how node spec pod = do
  uid ← name_of Pod how.by_uid pod
  request ← request Standing pod spec
  Ok (saying (Some (PodBound how.version uid node request)) (bound_left_out spec pod))

-- (a node whose name no line can say isn't in a script, and nothing is placed there; but the pod
-- waits no longer)
abbrev pub bound_told : Telling → (node : List ℕ) → (spec pod : Data) → Result Told Fault
bound_told how node spec pod = if is_name node then placed_told how node spec pod else Ok (gone_if how Pod pod (left_out (codes "node ") node))

-- a pod that is there, by the node on which it stands, whose name is empty where it stands on none
unfoldable pub node_name : (spec : Data) → Result (List ℕ) Fault
node_name spec = if is_some (as_object spec) then text_or (codes "nodeName") [] spec else Err (refused BadField (codes "spec"))

abbrev pub by_node : Telling → (spec pod : Data) → (node : List ℕ) → Result Told Fault
by_node how spec pod [] = Ok (waiting_told how spec pod)
by_node how spec pod (x ∷ more) = bound_told how (x ∷ more) spec pod

abbrev pub is_end : Option (List ℕ) → Bool
is_end phase = absent_or false (λ text. bytes_eq text (codes "Succeeded") || bytes_eq text (codes "Failed")) phase

abbrev pub has_ended : Data → Bool
has_ended json = is_end (option_and_then as_str (within (codes "status") (codes "phase") json))

unfoldable pub pod_told : Telling → Data → Result Told Fault
pod_told how json =
    if has_ended json then Ok (gone_if how Pod json []) else (do
      spec ← part_of (codes "spec") json
      node ← node_name spec
      by_node how spec json node)

-- an object of this kind, by what has come of it
abbrev pub there_told : Telling → Kind → Data → Result Told Fault
there_told how Node json = Ok (row_told (NodeSet how.version) how Node json (node_row how.site json))
there_told how Pod json = pod_told how json

abbrev pub by_change : {A : Type 0} → Change → (gone there : A) → A
by_change Gone gone there = gone
by_change _ gone there = there

unfoldable pub kind_told : Telling → Kind → Data → Result Told Fault
kind_told how kind json = by_change how.change (Ok (gone_told how kind json)) (there_told how kind json)

-- an object by its kind: Kubernetes' own kinds are of the version v1, and others may have their
-- names
abbrev pub core_kind : (version kind : List ℕ) → Option Kind
core_kind version kind =
    if not (bytes_eq version (codes "v1")) then None
    else if bytes_eq kind (codes "Node") then Some Node
    else if bytes_eq kind (codes "Pod") then Some Pod
    else None

-- (the items of a raw list have no kind: a pod is told by its containers and its phase, and a node
-- by what it says of its machine)
unfoldable pub has_pod_shape : Data → Bool
has_pod_shape json =
    is_some (option_and_then as_array (within (codes "spec") (codes "containers") json))
    && is_some (option_and_then as_str (within (codes "status") (codes "phase") json))

unfoldable pub has_node_shape : Data → Bool
has_node_shape json =
    is_some (option_and_then as_object (within (codes "status") (codes "nodeInfo") json))
    && is_some (option_and_then as_object (within (codes "status") (codes "allocatable") json))

unfoldable pub kind_by_shape : Data → Result (Option Kind) Fault
kind_by_shape json =
    if has_pod_shape json then Ok (Some Pod)
    else if has_node_shape json then Ok (Some Node)
    else Err (refused BadField (codes "kind"))

abbrev pub kind_said : Data → Option Data → Result (Option Kind) Fault
kind_said json None = kind_by_shape json
kind_said json (Some value) = do
  kind ← ok_or (as_str value) (refused BadField (codes "kind"))
  version ← text_or (codes "apiVersion") (codes "v1") json
  Ok (core_kind version kind)

-- a node, a pod or an object of another kind; what may be any can't be known not to be a pod
unfoldable pub kind_of : Data → Result (Option Kind) Fault
kind_of json = kind_said json (field (codes "kind") json)

-- (a list may hold pods)
abbrev pub other_told : Data → Result Told Fault
other_told json =
    if is_some (field (codes "items") json) then Err (refused IsList [])
    else Ok (saying None (left_out (codes "an object of the kind ") (spelled (codes "kind") json)))

abbrev pub by_kind : Telling → Data → Option Kind → Result Told Fault
by_kind how json kind = absent_or (other_told json) (λ k. kind_told how k json) kind

unfoldable pub object_told : Telling → Data → Result Told Fault
object_told how json = kind_of json >>= by_kind how json

-- the object of an event of the watch; whatever has none is one itself
unfoldable pub object_in : Data → Data
object_in json = unwrap_or (field (codes "object") json) json

-- an event of the watch by its type: a bookmark tells nothing
abbrev pub change_of : (type : List ℕ) → Option Change
change_of type =
    if bytes_eq type (codes "ADDED") then Some There
    else if bytes_eq type (codes "MODIFIED") then Some Changed
    else if bytes_eq type (codes "DELETED") then Some Gone
    else None

abbrev pub is_bookmark : (type : List ℕ) → Bool
is_bookmark type = bytes_eq type (codes "BOOKMARK")

abbrev pub changed_told : (Change → Telling) → (type : List ℕ) → Data → Option Change → Result Told Fault
changed_told how type json None = if is_bookmark type then Ok (saying None []) else Err (refused UnknownEvent [])
changed_told how type json (Some became) = object_told (how became) json

abbrev pub event_told : (Change → Telling) → Data → Option Data → Result Told Fault
event_told how json None = object_told (how There) json
event_told how json (Some held) = changed_told how (spelled (codes "type") json) held (change_of (spelled (codes "type") json))

unfoldable pub value_told : Site → (by_uid : Bool) → Version → Data → Result Told Fault
value_told site by_uid version json = event_told (telling site by_uid version) json (field (codes "object") json)

-- a line: one of nothing but spaces (RFC 8259, 2) is none
abbrev pub is_space : ℕ → Bool
is_space byte = byte == 32 || byte == 9 || byte == 10 || byte == 13

abbrev pub is_blank : List ℕ → Bool
is_blank line = list_all is_space line

abbrev pub parsed : List ℕ → Option Data
parsed line = if is_utf8 line then read line else None

unfoldable pub line_told : Site → (by_uid : Bool) → Version → (line : List ℕ) → Result Told Fault
line_told site by_uid version line =
    if not (nat_le (length line) MAX_OBJECT) then Err (refused LongLine [])
    else if is_blank line then Ok (saying None (left_out (codes "no JSON") []))
    else ok_or (parsed line) (refused NotJson []) >>= value_told site by_uid version

-- what a line gives: where it may be a pod on a node that no line can count, just that
abbrev pub told_or_uncounted : Result Told Fault → Told
told_or_uncounted (Ok told) = told
told_or_uncounted (Err fault) = record { event = None; left_out = fault_text fault; uncounted = true }

unfoldable pub told : Site → (by_uid : Bool) → Version → (line : List ℕ) → Told
told site by_uid version line = told_or_uncounted (line_told site by_uid version line)
