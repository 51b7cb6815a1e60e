-- No line that tells an event is too long.
use Rattle.std.proofs.Common.{◌≡◌, ℕ, suc, ◌+◌, ◌*◌, ◌^◌, ◌≤◌, ℤ, pos, negsuc, int_le, Bool, true, false, cond, ◌&&◌, nat_lt, List, [], ◌∷◌, ◌++◌, length, codes, decimal, Option, Some, None, refl, ap, arith, length-append, leb-true}
use Rattle.std.proofs.lemmas.Bool.{and_parts}
use Rattle.std.proofs.lemmas.Fmt.{length-decimal-le}
use Rattle.std.specs.Fmt.{signed_decimal}
use Rattle.json.specs.Json.{Json, boolean, array, no_members, member}
use Rattle.json.specs.Token.{Token, string}
use Rattle.json.specs.Print.{escape_letter, escape_byte, escape, separator, begins, ends, token_text, print_from, print}
use Rattle.json.specs.Tree.{json_tokens, items_tokens, members_tokens, room}
use Rattle.json.proofs.Printed.Trees.{room-append}
use Rattle.quant.specs.Name.{is_name, is_text}
use Rattle.quant.specs.declared.amount.Cpu.{Cpu}
use Rattle.quant.specs.declared.amount.Bytes.{Bytes}
use Rattle.quant.specs.declared.amount.Request.{Request}
use Rattle.quant.specs.declared.version.Version.{Version}
use Rattle.quant.specs.declared.objects.Label.{Label}
use Rattle.quant.specs.declared.objects.Node.{Node}
use Rattle.quant.specs.declared.objects.Pod.{Pod}
use Rattle.quant.specs.declared.taint.Taint.{Taint}
use Rattle.quant.specs.declared.taint.Toleration.{Toleration}
use Rattle.quant.specs.declared.taint.Effect.{Effect}
use Rattle.quant.specs.declared.taint.Effect.TheVariants.{NoSchedule, PreferNoSchedule, NoExecute}
use Rattle.quant.specs.declared.taint.Operator.{Operator}
use Rattle.quant.specs.declared.taint.Operator.TheVariants.{Equal, Exists}
use Rattle.quant.specs.declared.event.Event.{Event}
use Rattle.quant.specs.declared.event.Event.TheVariants.{NodeSet, NodeGone, PodPending, PodBound, PodGone}
use Rattle.manifest.specs.declared.line.TheConstants.{MAX_LINE}
use Rattle.objects.specs.inside.Line.{cpu_text, memory_text, effect_text, optional_effect_text, operator_text, label_json, taint_json, toleration_json, items_json, line_json}
use Rattle.objects.specs.Sayable.{says_label, says_taint, says_toleration, IsVersion}
use Rattle.objects.specs.inside.Events.{each_beside, IsNodeRow, IsPodRow, IsSayable}

-- a byte is written as six at most
escape_choice : (short low : Bool) (l d e x : ℕ)
    → length (cond short (92 ∷ l ∷ []) (cond low (92 ∷ 117 ∷ 48 ∷ 48 ∷ d ∷ e ∷ []) (x ∷ []))) ≤ 6
escape_choice true low l d e x = omega arith
escape_choice false true l d e x = omega arith
escape_choice false false l d e x = omega arith

escape_byte_length : (x : ℕ) → length (escape_byte x) ≤ 6
unfolding escape_byte
escape_byte_length x = escape_choice (nat_lt 0 (escape_letter x)) (nat_lt x 32) (escape_letter x) _ _ x

escape_length : (s : List ℕ) → length (escape s) ≤ 6 * length s
escape_length [] = omega arith
escape_length (x ∷ xs) = omega (arith, length-append (escape_byte x) (escape xs), escape_byte_length x, escape_length xs)

-- a text is not printed longer than its tokens with a comma each
separator_length : (b c : Bool) → length {A = ℕ} (cond (b && c) (44 ∷ []) []) ≤ 1
separator_length true true = omega arith
separator_length true false = omega arith
separator_length false c = omega arith

print_length : (b : Bool) (ts : List Token) → length (print_from b ts) ≤ room ts
unfolding print_from
print_length b [] = omega arith
print_length b (t ∷ ts) =
    let rest = print_from (ends t) ts in
    let parts : print_from b (t ∷ ts) ≡ separator b t ++ (token_text t ++ rest) = refl in
    let comma : length (separator b t) ≤ 1 = separator_length b (begins t) in
    omega (
      arith,
      ap length parts,
      length-append (separator b t) (token_text t ++ rest),
      length-append (token_text t) rest,
      comma,
      print_length (ends t) ts,
    )

-- a name and a text are short
pub text_short : (s : List ℕ) → is_text s ≡ true → length s ≤ 63
unfolding is_text
text_short s h = leb-true _ _ (and_parts _ _ h).0

pub name_short : (s : List ℕ) → is_name s ≡ true → length s ≤ 63
unfolding is_name
name_short s h = text_short s (and_parts _ _ h).1

string_room : (s : List ℕ) → room (string s ∷ []) ≤ 6 * length s + 3
string_room s = omega (arith, length-append (escape s) (34 ∷ []), escape_length s)

effect_short : (effect : Effect) → length (effect_text effect) ≤ 16
effect_short NoSchedule = omega arith
effect_short PreferNoSchedule = omega arith
effect_short NoExecute = omega arith

optional_effect_short : (effect : Option Effect) → length (optional_effect_text effect) ≤ 16
optional_effect_short None = omega arith
optional_effect_short (Some effect) = effect_short effect

operator_short : (operator : Operator) → length (operator_text operator) ≤ 6
operator_short Equal = omega arith
operator_short Exists = omega arith

label_room : (before : List Label) (x : Label) → says_label before x ≡ true → room (json_tokens (label_json x)) ≤ 766
unfolding says_label
label_room before x h =
    let parts = and_parts (is_name x.key) (is_text x.value) (and_parts _ _ h).0 in
    omega (arith, string_room x.key, string_room x.value, name_short x.key parts.0, text_short x.value parts.1)

taint_room : (before : List Taint) (x : Taint) → says_taint before x ≡ true → room (json_tokens (taint_json x)) ≤ 865
unfolding says_taint
taint_room before x h =
    let parts = and_parts _ _ (and_parts _ _ h).0 in
    omega (arith, string_room x.key, string_room x.value, string_room (effect_text x.effect), name_short x.key parts.0, text_short x.value parts.1, effect_short x.effect)

toleration_room : (before : List Toleration) (x : Toleration) → says_toleration before x ≡ true → room (json_tokens (toleration_json x)) ≤ 904
unfolding says_toleration
toleration_room before x h =
    let parts = and_parts _ _ (and_parts _ _ h).0 in
    omega (
      arith,
      string_room x.key,
      string_room x.value,
      string_room (operator_text x.operator),
      string_room (optional_effect_text x.effect),
      text_short x.key parts.0,
      text_short x.value parts.1,
      operator_short x.operator,
      optional_effect_short x.effect,
    )

items_room : {A : Type 0} (f : A → Json) (passes : List A → A → Bool) (most : ℕ)
    (one : (before : List A) (x : A) → passes before x ≡ true → room (json_tokens (f x)) ≤ most)
    (before xs : List A) → each_beside passes before xs ≡ true → room (items_tokens (items_json f xs)) ≤ 2 + most * length xs
items_room f passes most one before [] h = omega arith
items_room f passes most one before (x ∷ xs) h =
    let parts = and_parts _ _ h in
    omega (arith, room-append (json_tokens (f x)) (items_tokens (items_json f xs)), one before x parts.0, items_room f passes most one (before ++ x ∷ []) xs parts.1)

cpu_short : (cpu : Cpu) → cpu.0 ≤ 2 ^ 30 → length (cpu_text cpu) ≤ 21
cpu_short cpu h = omega (arith, length-append (decimal cpu.0) (codes "m"), length-decimal-le 20 cpu.0 (omega arith) (omega arith) (omega arith))

memory_short : (mem : Bytes) → mem.0 ≤ 2 ^ 44 → length (memory_text mem) ≤ 20
memory_short mem h = length-decimal-le 20 mem.0 (omega arith) (omega arith) (omega arith)

version_short : (version : Version) → IsVersion version → length (decimal version.0) ≤ 20
version_short version v = length-decimal-le 20 version.0 (omega arith) (omega (arith, v.most)) (omega (arith, v.most))

signed_short : (z : ℤ) → int_le (negsuc 2147483647) z ≡ true → int_le z (pos 2147483647) ≡ true → length (signed_decimal z) ≤ 21
signed_short (pos n) low high =
    let small : n ≤ 2147483647 = leb-true n 2147483647 high in omega (arith, length-decimal-le 20 n (omega arith) (omega arith) (omega arith))
signed_short (negsuc n) low high =
    let small : n ≤ 2147483647 = leb-true n 2147483647 low in omega (arith, length-decimal-le 20 (suc n) (omega arith) (omega arith) (omega arith))

boolean_short : (b : Bool) → length (token_text (Token.boolean b)) ≤ 5
boolean_short true = omega arith
boolean_short false = omega arith

node_room : (version : Version) (node : Node) → IsVersion version → IsNodeRow node → room (json_tokens (line_json (NodeSet version node))) ≤ MAX_LINE
unfolding line_json escape_byte
node_room version node v row =
    let last = member (codes "unschedulable") (boolean node.unschedulable) no_members in
    let taints = member (codes "taints") (array (items_json taint_json node.taints)) last in
    omega (
      arith,
      version_short version v,
      string_room node.name,
      name_short node.name row.name,
      string_room (cpu_text node.allocatable.cpu),
      cpu_short node.allocatable.cpu row.cpu,
      string_room (memory_text node.allocatable.mem),
      memory_short node.allocatable.mem row.memory,
      length-decimal-le 20 node.allocatable.pods (omega arith) (omega (arith, row.pods)) (omega (arith, row.pods)),
      items_room label_json says_label 766 label_room [] node.labels row.labels,
      row.few_labels,
      items_room taint_json says_taint 865 taint_room [] node.taints row.taints,
      row.few_taints,
      room-append (items_tokens (items_json label_json node.labels)) (members_tokens taints),
      room-append (items_tokens (items_json taint_json node.taints)) (members_tokens last),
      boolean_short node.unschedulable,
    )

gone_room : (version : Version) (bytes : List ℕ) → IsVersion version → is_name bytes ≡ true → room (json_tokens (line_json (NodeGone version bytes))) ≤ MAX_LINE
unfolding line_json escape_byte
gone_room version bytes v named = omega (arith, version_short version v, string_room bytes, name_short bytes named)

pod_room : (version : Version) (pod : Pod) → IsVersion version → IsPodRow pod → room (json_tokens (line_json (PodPending version pod))) ≤ MAX_LINE
unfolding line_json escape_byte
pod_room version pod v row =
    let last = member (codes "tolerations") (array (items_json toleration_json pod.tolerations)) no_members in
    omega (
      arith,
      version_short version v,
      string_room pod.uid,
      name_short pod.uid row.uid,
      signed_short pod.priority row.low row.high,
      string_room (cpu_text pod.request.cpu),
      cpu_short pod.request.cpu pod.request.within_cpu,
      string_room (memory_text pod.request.mem),
      memory_short pod.request.mem pod.request.within_mem,
      items_room label_json says_label 766 label_room [] pod.labels row.labels,
      row.few_labels,
      items_room toleration_json says_toleration 904 toleration_room [] pod.tolerations row.tolerations,
      row.few_tolerations,
      room-append (items_tokens (items_json label_json pod.labels)) (members_tokens last),
      room-append (items_tokens (items_json toleration_json pod.tolerations)) (members_tokens no_members),
    )

bound_room : (version : Version) (uid node : List ℕ) (r : Request) → IsVersion version → is_name uid ≡ true → is_name node ≡ true
    → room (json_tokens (line_json (PodBound version uid node r))) ≤ MAX_LINE
unfolding line_json escape_byte
bound_room version uid node r v uid_named node_named =
    omega (
      arith,
      version_short version v,
      string_room uid,
      name_short uid uid_named,
      string_room node,
      name_short node node_named,
      string_room (cpu_text r.cpu),
      cpu_short r.cpu r.within_cpu,
      string_room (memory_text r.mem),
      memory_short r.mem r.within_mem,
    )

deleted_room : (version : Version) (uid : List ℕ) → IsVersion version → is_name uid ≡ true → room (json_tokens (line_json (PodGone version uid))) ≤ MAX_LINE
unfolding line_json escape_byte
deleted_room version uid v named = omega (arith, version_short version v, string_room uid, name_short uid named)

event_room : (event : Event) → IsSayable event → room (json_tokens (line_json event)) ≤ MAX_LINE
event_room (NodeSet version node) h = node_room version node h.0 h.1
event_room (NodeGone version name) h = gone_room version name h.0 h.1
event_room (PodPending version pod) h = pod_room version pod h.0 h.1
event_room (PodBound version uid node r) h = bound_room version uid node r h.0 h.1 h.2
event_room (PodGone version uid) h = deleted_room version uid h.0 h.1

-- the line that tells an event is no longer than a line may be
pub line_short : (event : Event) → IsSayable event → length (print (json_tokens (line_json event))) ≤ MAX_LINE
line_short event h = omega (arith, print_length false (json_tokens (line_json event)), event_room event h)
