-- The line that tells an event is read as that event.
use Rattle.std.proofs.Common.{◌≡◌, ℕ, ◌+◌, ◌^◌, ◌<◌, ◌≤◌, ℤ, pos, negsuc, int_le, max, Bool, true, List, [], ◌∷◌, ◌++◌, length, codes, Option, Some, None, option_and_then, Ok, refl, sym, ap, ◌∙◌, arith, append-nil, le-leb, leb-true, lt-ltb}
use Rattle.std.specs.Fmt.{signed_decimal}
use Rattle.std.specs.Option.{ok_or}
use Rattle.std.specs.Str.{IsUtf8}
use Rattle.json.specs.Json as json
use Rattle.json.specs.Json.{Json}
use Rattle.json.specs.Token.{Token}
use Rattle.json.specs.Lex.{tokens}
use Rattle.json.specs.Print.{print}
use Rattle.json.specs.Tree.{json_tokens, depth, items_depth}
use Rattle.json.proofs.Printed.Trees.{value-json_tokens}
use Rattle.serde_json.specs.Data.{Num, unsigned, negative, Data, number, string, array, object, boolean, no_members, put}
use Rattle.serde_json.specs.Read.{read, of_json, max_depth}
use Rattle.serde_json.specs.Find.{get}
use Rattle.serde_json.proofs.Numbers.{number_of-decimal, number_of-negative}
use Rattle.quant.specs.Name.{is_name}
use Rattle.quant.specs.declared.amount.Cpu.{Cpu}
use Rattle.quant.specs.declared.amount.Bytes.{Bytes}
use Rattle.quant.specs.declared.amount.Request.{Request}
use Rattle.quant.specs.declared.limits.TheConstants.{MAX_LABELS, MAX_TAINTS, MAX_TOLERATIONS, MAX_CONTAINERS, MAX_PLACED, MAX_VERSION}
use Rattle.quant.specs.declared.version.Version.{Version}
use Rattle.quant.specs.declared.objects.Node.{Node}
use Rattle.quant.specs.declared.objects.Pod.{Pod}
use Rattle.quant.specs.declared.event.Event.{Event}
use Rattle.quant.specs.declared.event.Event.TheVariants.{NodeSet, NodeGone, PodPending, PodBound, PodGone}
use Rattle.quant.specs.Request.{asked, pod_request}
use Rattle.quant.proofs.RequestLemmas.{request_of_own}
use Rattle.manifest.specs.declared.line.TheConstants.{MAX_LINE}
use Rattle.manifest.specs.declared.command.Command.TheVariants as commands
use Rattle.manifest.specs.declared.field.Field.{Field}
use Rattle.manifest.specs.declared.field.Field.TheVariants as fields
use Rattle.manifest.specs.declared.fault.LineFault.TheVariants.{BadField}
use Rattle.manifest.specs.Field.{key}
use Rattle.manifest.specs.Operation.{operation_named}
use Rattle.manifest.specs.Reading.{◌>>=◌, member, text, integer, natural, signed, flag, name, name_from, cpu, cpu_from, memory, memory_from, request}
use Rattle.manifest.specs.Line.{version_in, node_in, gone_in, pod_in, row_in, bound_in, deleted_in, fields_of, command_in, meaning}
use Rattle.manifest.proofs.Parsed.{parsed_read}
use Rattle.objects.specs.inside.Line.{cpu_text, memory_text, label_json, taint_json, toleration_json, items_json, line_json}
use Rattle.objects.specs.Sayable.{IsVersion}
use Rattle.objects.specs.inside.Events.{IsNodeRow, IsPodRow, IsSayable}
use Rattle.objects.proofs.Spelled.{cpu_back, memory_back}
use Rattle.objects.proofs.Lengths.{line_short}
use Rattle.objects.proofs.Rows.{label_data, taint_data, toleration_data, request_data, items_data, of_labels, of_taints, of_tolerations, labels_back, taints_back, tolerations_back, request_back}

-- the value of what was read, where nothing is left
abbrev whole : Option (Json × List Token) → Option Data
whole found = option_and_then of_json (option_and_then (λ p. json.if_last p.0 p.1) found)

-- a text of a value's tokens is read as that value
read_printed : (j : Json) (line : List ℕ) (d : Data) → tokens line ≡ json_tokens j → depth j ≤ max_depth → of_json j ≡ Some d → read line ≡ Some d
read_printed j line d same shallow is =
    ap whole (ap (json.value max_depth) (same ∙ sym (append-nil _)) ∙ value-json_tokens j max_depth [] shallow) ∙ is

-- what fields say

member_is : (field : Field) (d x : Data) → get (key field) d ≡ Some x → member field d ≡ Ok x
unfolding member
member_is field d x h = ap (λ o. ok_or o (BadField field)) h

natural_back : (low high n : ℕ) (field : Field) → low ≤ n → n ≤ high → natural low high field (number (unsigned n)) ≡ Ok n
unfolding natural integer
natural_back low high n field some few = rw (le-leb low n some, le-leb n high few) refl

name_back : (field : Field) (bytes : List ℕ) → is_name bytes ≡ true → name field (string bytes) ≡ Ok bytes
unfolding name text name_from
name_back field bytes h = rw h refl

flag_back : (field : Field) (b : Bool) → flag field (boolean b) ≡ Ok b
unfolding flag
flag_back field b = refl

cpu_field : (field : Field) (c : Cpu) → c.0 ≤ 2 ^ 30 → cpu field (string (cpu_text c)) ≡ Ok c
unfolding cpu text cpu_from
cpu_field field c h = rw (cpu_back c h) refl

memory_field : (field : Field) (m : Bytes) → m.0 ≤ 2 ^ 44 → memory field (string (memory_text m)) ≡ Ok m
unfolding memory text memory_from
memory_field field m h = rw (memory_back m h) refl

request_field : (field : Field) (r : Request) → request field r.cpu r.mem ≡ Ok r
unfolding request
request_field field r = rw (request_of_own r) refl

-- a whole number as the reader of JSON has it
abbrev signed_data : ℤ → Num
signed_data (pos n) = unsigned n
signed_data (negsuc n) = negative (negsuc n)

below_top : (n : ℕ) → int_le (pos n) (pos 2147483647) ≡ true → n < 2 ^ 63
below_top n h = let e : n ≤ 2147483647 = leb-true n 2147483647 h in omega arith

above_bottom : (n : ℕ) → int_le (negsuc 2147483647) (negsuc n) ≡ true → n < 2 ^ 63
above_bottom n h = let e : n ≤ 2147483647 = leb-true n 2147483647 h in omega arith

of_signed : (z : ℤ) → int_le (negsuc 2147483647) z ≡ true → int_le z (pos 2147483647) ≡ true
    → of_json (json.number (signed_decimal z)) ≡ Some (number (signed_data z))
of_signed (pos n) low high = let small = below_top n high in rw (number_of-decimal n (omega arith)) refl
of_signed (negsuc n) low high = rw (number_of-negative n (above_bottom n low)) refl

signed_back : (field : Field) (z : ℤ) → int_le (negsuc 2147483647) z ≡ true → int_le z (pos 2147483647) ≡ true
    → signed field (number (signed_data z)) ≡ Ok z
unfolding signed integer
signed_back field (pos n) low high = rw (lt-ltb n (2 ^ 63) (below_top n high)) (rw high refl)
signed_back field (negsuc n) low high = rw low refl

-- the operations

version_back : (d : Data) (version : Version) → get (key fields.Version) d ≡ Some (number (unsigned version.0)) → IsVersion version
    → version_in d ≡ Ok version
unfolding version_in
version_back d version h v = rw (member_is fields.Version d _ h, natural_back 1 MAX_VERSION version.0 fields.Version v.least v.most) refl

node_back : (d : Data) (version : Version) (node : Node)
    → get (key fields.Version) d ≡ Some (number (unsigned version.0))
    → get (key fields.Name) d ≡ Some (string node.name)
    → get (key fields.Cpu) d ≡ Some (string (cpu_text node.allocatable.cpu))
    → get (key fields.Memory) d ≡ Some (string (memory_text node.allocatable.mem))
    → get (key fields.Pods) d ≡ Some (number (unsigned node.allocatable.pods))
    → get (key fields.Labels) d ≡ Some (array (items_data label_data node.labels))
    → get (key fields.Taints) d ≡ Some (array (items_data taint_data node.taints))
    → get (key fields.Unschedulable) d ≡ Some (boolean node.unschedulable)
    → IsVersion version → IsNodeRow node → node_in d ≡ Ok (commands.Event (NodeSet version node))
unfolding node_in
node_back d version node in_version in_name in_cpu in_memory in_pods in_labels in_taints in_unschedulable v row =
    rw (
      version_back d version in_version v,
      member_is fields.Name d _ in_name,
      name_back fields.Name node.name row.name,
      member_is fields.Cpu d _ in_cpu,
      cpu_field fields.Cpu node.allocatable.cpu row.cpu,
      member_is fields.Memory d _ in_memory,
      memory_field fields.Memory node.allocatable.mem row.memory,
      member_is fields.Pods d _ in_pods,
      natural_back 0 MAX_PLACED node.allocatable.pods fields.Pods (omega arith) row.pods,
      in_labels,
      labels_back fields.Labels MAX_LABELS node.labels row.few_labels row.labels,
      in_taints,
      taints_back fields.Taints MAX_TAINTS node.taints row.few_taints row.taints,
      in_unschedulable,
      flag_back fields.Unschedulable node.unschedulable,
    ) refl

gone_back : (d : Data) (version : Version) (bytes : List ℕ)
    → get (key fields.Version) d ≡ Some (number (unsigned version.0)) → get (key fields.Name) d ≡ Some (string bytes)
    → IsVersion version → is_name bytes ≡ true → gone_in d ≡ Ok (commands.Event (NodeGone version bytes))
unfolding gone_in
gone_back d version bytes in_version in_name v named =
    rw (version_back d version in_version v, member_is fields.Name d _ in_name, name_back fields.Name bytes named) refl

-- one container asks for the whole request
alone : (r : Request) → pod_request (r ∷ []) [] ≡ Ok r
unfolding pod_request asked
alone r =
    let cpu : max (0 + r.cpu.0) 0 ≡ r.cpu.0 = omega arith in
    let mem : max (0 + r.mem.0) 0 ≡ r.mem.0 = omega arith in
    rw (cpu, mem) (request_of_own r)

pod_back : (d : Data) (version : Version) (pod : Pod)
    → get (key fields.Version) d ≡ Some (number (unsigned version.0))
    → get (key fields.Uid) d ≡ Some (string pod.uid)
    → get (key fields.Priority) d ≡ Some (number (signed_data pod.priority))
    → get (key fields.Containers) d ≡ Some (array (items_data request_data (pod.request ∷ [])))
    → get (key fields.Init) d ≡ None
    → get (key fields.Labels) d ≡ Some (array (items_data label_data pod.labels))
    → get (key fields.Tolerations) d ≡ Some (array (items_data toleration_data pod.tolerations))
    → IsVersion version → IsPodRow pod → pod_in d ≡ Ok (commands.Event (PodPending version pod))
unfolding pod_in row_in
pod_back d version pod in_version in_uid in_priority in_containers in_init in_labels in_tolerations v row =
    rw (
      version_back d version in_version v,
      member_is fields.Uid d _ in_uid,
      name_back fields.Uid pod.uid row.uid,
      in_priority,
      signed_back fields.Priority pod.priority row.low row.high,
      member_is fields.Containers d _ in_containers,
      request_back fields.Containers MAX_CONTAINERS pod.request (omega arith),
      in_init,
      in_labels,
      labels_back fields.Labels MAX_LABELS pod.labels row.few_labels row.labels,
      in_tolerations,
      tolerations_back fields.Tolerations MAX_TOLERATIONS pod.tolerations row.few_tolerations row.tolerations,
      alone pod.request,
    ) refl

bound_back : (d : Data) (version : Version) (uid node : List ℕ) (r : Request)
    → get (key fields.Version) d ≡ Some (number (unsigned version.0))
    → get (key fields.Uid) d ≡ Some (string uid)
    → get (key fields.Node) d ≡ Some (string node)
    → get (key fields.Cpu) d ≡ Some (string (cpu_text r.cpu))
    → get (key fields.Memory) d ≡ Some (string (memory_text r.mem))
    → IsVersion version → is_name uid ≡ true → is_name node ≡ true
    → bound_in d ≡ Ok (commands.Event (PodBound version uid node r))
unfolding bound_in
bound_back d version uid node r in_version in_uid in_node in_cpu in_memory v uid_named node_named =
    rw (
      version_back d version in_version v,
      member_is fields.Uid d _ in_uid,
      name_back fields.Uid uid uid_named,
      member_is fields.Node d _ in_node,
      name_back fields.Node node node_named,
      member_is fields.Cpu d _ in_cpu,
      cpu_field fields.Cpu r.cpu r.within_cpu,
      member_is fields.Memory d _ in_memory,
      memory_field fields.Memory r.mem r.within_mem,
      request_field fields.Memory r,
    ) refl

deleted_back : (d : Data) (version : Version) (uid : List ℕ)
    → get (key fields.Version) d ≡ Some (number (unsigned version.0)) → get (key fields.Uid) d ≡ Some (string uid)
    → IsVersion version → is_name uid ≡ true → deleted_in d ≡ Ok (commands.Event (PodGone version uid))
unfolding deleted_in
deleted_back d version uid in_version in_uid v named =
    rw (version_back d version in_version v, member_is fields.Uid d _ in_uid, name_back fields.Uid uid named) refl

-- the operation is read first
command_is : (d : Data) (op : List ℕ) → get (key fields.Op) d ≡ Some (string op)
    → command_in d ≡ (ok_or (operation_named op) (BadField fields.Op) >>= λ operation. fields_of operation d)
unfolding command_in text
command_is d op in_op = rw (member_is fields.Op d _ in_op) refl

-- what the objects are read as, and how deep they nest

abbrev Back : Event → Type 0
Back event = (d : Data) × (of_json (line_json event) ≡ Some d) × (command_in d ≡ Ok (commands.Event event)) × (depth (line_json event) ≤ max_depth)

shallow_items : {A : Type 0} (f : A → Json) (one : (x : A) → depth (f x) ≤ 1) (xs : List A) → items_depth (items_json f xs) ≤ 1
shallow_items f one [] = omega arith
shallow_items f one (x ∷ xs) = omega (arith, one x, shallow_items f one xs)

node_line : (version : Version) (node : Node) → IsVersion version → IsNodeRow node → Back (NodeSet version node)
unfolding line_json key operation_named fields_of
node_line version node v row =
    let d : Data = object (put (codes "unschedulable") (boolean node.unschedulable)
    (put (codes "taints") (array (items_data taint_data node.taints))
    (put (codes "labels") (array (items_data label_data node.labels))
    (put (codes "pods") (number (unsigned node.allocatable.pods))
    (put (codes "mem") (string (memory_text node.allocatable.mem))
    (put (codes "cpu") (string (cpu_text node.allocatable.cpu))
    (put (codes "name") (string node.name)
    (put (codes "v") (number (unsigned version.0))
    (put (codes "op") (string (codes "node")) no_members))))))))) in (
      d,
      rw (number_of-decimal version.0 (omega (arith, v.most)), number_of-decimal node.allocatable.pods (omega (arith, row.pods)), of_labels node.labels, of_taints node.taints) refl,
      command_is d (codes "node") refl ∙ node_back d version node refl refl refl refl refl refl refl refl v row,
      omega (arith, shallow_items label_json (λ x. omega arith) node.labels, shallow_items taint_json (λ x. omega arith) node.taints),
    )

gone_line : (version : Version) (bytes : List ℕ) → IsVersion version → is_name bytes ≡ true → Back (NodeGone version bytes)
unfolding line_json key operation_named fields_of
gone_line version bytes v named =
    let d : Data = object (put (codes "name") (string bytes) (put (codes "v") (number (unsigned version.0)) (put (codes "op") (string (codes "gone")) no_members))) in (
      d,
      rw (number_of-decimal version.0 (omega (arith, v.most))) refl,
      command_is d (codes "gone") refl ∙ gone_back d version bytes refl refl v named,
      omega arith,
    )

pod_line : (version : Version) (pod : Pod) → IsVersion version → IsPodRow pod → Back (PodPending version pod)
unfolding line_json key operation_named fields_of
pod_line version pod v row =
    let d : Data = object (put (codes "tolerations") (array (items_data toleration_data pod.tolerations))
    (put (codes "labels") (array (items_data label_data pod.labels))
    (put (codes "containers") (array (items_data request_data (pod.request ∷ [])))
    (put (codes "priority") (number (signed_data pod.priority))
    (put (codes "uid") (string pod.uid)
    (put (codes "v") (number (unsigned version.0))
    (put (codes "op") (string (codes "pod")) no_members))))))) in (
      d,
      rw (number_of-decimal version.0 (omega (arith, v.most)), of_signed pod.priority row.low row.high, of_labels pod.labels, of_tolerations pod.tolerations) refl,
      command_is d (codes "pod") refl ∙ pod_back d version pod refl refl refl refl refl refl refl v row,
      omega (arith, shallow_items label_json (λ x. omega arith) pod.labels, shallow_items toleration_json (λ x. omega arith) pod.tolerations),
    )

bound_line : (version : Version) (uid node : List ℕ) (r : Request) → IsVersion version → is_name uid ≡ true → is_name node ≡ true
    → Back (PodBound version uid node r)
unfolding line_json key operation_named fields_of
bound_line version uid node r v uid_named node_named =
    let d : Data = object (put (codes "mem") (string (memory_text r.mem))
    (put (codes "cpu") (string (cpu_text r.cpu))
    (put (codes "node") (string node)
    (put (codes "uid") (string uid)
    (put (codes "v") (number (unsigned version.0))
    (put (codes "op") (string (codes "bound")) no_members)))))) in (
      d,
      rw (number_of-decimal version.0 (omega (arith, v.most))) refl,
      command_is d (codes "bound") refl ∙ bound_back d version uid node r refl refl refl refl refl v uid_named node_named,
      omega arith,
    )

deleted_line : (version : Version) (uid : List ℕ) → IsVersion version → is_name uid ≡ true → Back (PodGone version uid)
unfolding line_json key operation_named fields_of
deleted_line version uid v named =
    let d : Data = object (put (codes "uid") (string uid) (put (codes "v") (number (unsigned version.0)) (put (codes "op") (string (codes "deleted")) no_members))) in (
      d,
      rw (number_of-decimal version.0 (omega (arith, v.most))) refl,
      command_is d (codes "deleted") refl ∙ deleted_back d version uid refl refl v named,
      omega arith,
    )

event_line : (event : Event) → IsSayable event → Back event
event_line (NodeSet version node) h = node_line version node h.0 h.1
event_line (NodeGone version name) h = gone_line version name h.0 h.1
event_line (PodPending version pod) h = pod_line version pod h.0 h.1
event_line (PodBound version uid node r) h = bound_line version uid node r h.0 h.1 h.2
event_line (PodGone version uid) h = deleted_line version uid h.0 h.1

-- the line that tells an event means that event
line_back : (event : Event) (line : List ℕ) → IsSayable event → tokens line ≡ json_tokens (line_json event) → IsUtf8 line → length line ≤ MAX_LINE
    → meaning line ≡ Ok (commands.Event event)
unfolding meaning
line_back event line sayable printed utf8 short =
    let back = event_line event sayable in
    rw (le-leb (length line) MAX_LINE short, parsed_read line back.0 (utf8, read_printed (line_json event) line back.0 printed back.3 back.1)) back.2

-- a writer that has begun with nothing, and has written the object's tokens, has written such a
-- line
pub line_told : (event : Event) (before : List ℕ) (ts : List Token) (line : List ℕ) → IsSayable event
    → before ≡ [] → ts ≡ json_tokens (line_json event) → line ≡ before ++ print ts → tokens (print ts) ≡ ts → IsUtf8 (print ts)
    → meaning line ≡ Ok (commands.Event event)
line_told event before ts line sayable empty same is back utf8 =
    let whole_line : line ≡ print ts = is ∙ ap (λ l. l ++ print ts) empty in
    let short : length (print ts) ≤ MAX_LINE = rw same (line_short event sayable) in
    rw whole_line (line_back event (print ts) sayable (back ∙ same) utf8 short)
