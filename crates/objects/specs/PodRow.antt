-- The row that the object of a pod gives that waits for a place.
use Rattle.std.specs.Prelude.{ℕ, ℤ, pos, negsuc, int_le, ◌&&◌, Bool, List, [], ◌++◌, length, nat_lt, codes, Option, Some, None, Result, Ok, Err, is_some, option_and_then, if◌then◌else◌}
use Rattle.serde_json.specs.Data.{Data, Items, no_items, item}
use Rattle.serde_json.specs.Find.{as_number, as_i64, as_str}
use Rattle.quant.specs.Name.{is_name}
use Rattle.quant.specs.declared.amount.Request.{Request}
use Rattle.quant.specs.declared.limits.TheConstants.{MAX_TOLERATIONS}
use Rattle.quant.specs.declared.objects.Label.{Label}
use Rattle.quant.specs.declared.objects.Pod.{Pod}
use Rattle.quant.specs.declared.taint.Effect.{Effect}
use Rattle.quant.specs.declared.taint.Operator.{Operator}
use Rattle.quant.specs.declared.taint.Toleration.{Toleration}
use Rattle.manifest.specs.Rows.{operator_named, effect_or_none}
use Rattle.objects.specs.declared.fault.Why.TheVariants.{BadField}
use Rattle.objects.specs.declared.request.Reckoned.TheVariants.{Waiting}
use Rattle.objects.specs.Quantity.{◌>>=◌}
use Rattle.objects.specs.Reading.{field, part_of, text_or, text_at, name_at, members_of, items_of, spelled}
use Rattle.objects.specs.PodRequest as pod
use Rattle.objects.specs.Sayable.{says_toleration}
use Rattle.objects.specs.LeftOut.{Fault, refused}
use Rattle.objects.specs.Labels.{Kept, with_item, row_labels}
use Rattle.objects.specs.Demands.{wishes}
use Rattle.objects.specs.Site.{Site}

-- how a script calls a pod: by its namespace and name with a slash between them, where that is a
-- name of a script and its uid isn't asked for, and by its uid otherwise
abbrev pub called : (full_name : List ℕ) → (meta : Data) → Result (List ℕ) Fault
called full_name meta = if is_name full_name then Ok full_name else name_at (codes "uid") meta

abbrev pub full_name : (meta : Data) → Result (List ℕ) Fault
full_name meta = do
  namespace ← text_or (codes "namespace") (codes "default") meta
  name ← text_at (codes "name") meta
  called (namespace ++ codes "/" ++ name) meta

unfoldable pub pod_name : (by_uid : Bool) → (meta : Data) → Result (List ℕ) Fault
pod_name by_uid meta = if by_uid then name_at (codes "uid") meta else full_name meta

-- a number of 32 bits, which is 0 where it is absent
abbrev pub is_small : ℤ → Bool
is_small z = int_le (negsuc 2147483647) z && int_le z (pos 2147483647)

abbrev pub a_priority : Option ℤ → Result ℤ Fault
a_priority None = Err (refused BadField (codes "priority"))
a_priority (Some z) = if is_small z then Ok z else Err (refused BadField (codes "priority"))

abbrev pub priority_of : Option Data → Result ℤ Fault
priority_of None = Ok (pos 0)
priority_of (Some value) = a_priority (option_and_then as_i64 (as_number value))

unfoldable pub priority : Data → Result ℤ Fault
priority spec = priority_of (field (codes "priority") spec)

-- a toleration, where a row can have it behind others
abbrev pub fitting : List Toleration → Toleration → Option Toleration
fitting before toleration = if nat_lt (length before) MAX_TOLERATIONS && says_toleration before toleration then Some toleration else None

-- (the text in a field that may be absent; what is no text gives no toleration)
abbrev pub text_if : Option Data → Option (List ℕ)
text_if None = Some []
text_if (Some value) = as_str value

abbrev pub with_parts : List Toleration → Option Operator → Option (Option Effect) → (key value : Option (List ℕ)) → Option Toleration
with_parts before (Some operator) (Some effect) (Some key) (Some value) =
    fitting before (record { key = key; operator = operator; value = value; effect = effect })
with_parts before _ _ _ _ = None

unfoldable pub toleration_of : List Toleration → Data → Option Toleration
toleration_of before json =
    with_parts before (option_and_then operator_named (text_if (field (codes "operator") json)))
    (option_and_then effect_or_none (text_if (field (codes "effect") json))) (text_if (field (codes "key") json)) (text_if (field (codes "value") json))

-- the tolerations of an array's items, behind others. Without one that is left out the pod is kept
-- from places where it could be
abbrev pub tolerations_of : Kept (List Toleration) → Items → Kept (List Toleration)
tolerations_of kept no_items = kept
tolerations_of kept (item d rest) = tolerations_of (with_item (codes "toleration of ") (spelled (codes "key") d) kept (toleration_of kept.item d)) rest

-- how a pod is called, its priority, and what it asks for
unfoldable pub pod_parts : (by_uid : Bool) → (meta spec json : Data) → Result (List ℕ × ℤ × Request) Fault
pod_parts by_uid meta spec json = do
  uid ← pod_name by_uid meta
  priority ← priority spec
  request ← pod.request Waiting json spec
  Ok (uid, priority, request)

abbrev pub pod_of : List ℕ × ℤ × Request → (labels : List Label) → Kept (List Toleration) → Kept Pod
pod_of parts labels tolerations = record {
  item = record {
    uid = parts.0;
    priority = parts.1;
    request = parts.2;
    labels = labels;
    tolerations = tolerations.item;
  };
  left_out = tolerations.left_out;
}

-- its labels, in which those that the site's rules read come first, and its tolerations, and what is left out of
-- both behind what the pod can do without: its labels are read before its tolerations
unfoldable pub pod_lists : Site → (meta spec : Data) → Result (List Label × Kept (List Toleration)) Fault
pod_lists site meta spec = do
  found ← members_of (codes "labels") (field (codes "labels") meta)
  tolerations ← items_of (codes "tolerations") (field (codes "tolerations") spec)
  kept ← row_labels site (wishes (is_some site.beside) spec) found
  Ok (kept.item, tolerations_of (record { item = []; left_out = kept.left_out }) tolerations)

-- the row of a pod's object
unfoldable pub pod_row : Site → (by_uid : Bool) → Data → Result (Kept Pod) Fault
pod_row site by_uid json = do
  meta ← part_of (codes "metadata") json
  spec ← part_of (codes "spec") json
  parts ← pod_parts by_uid meta spec json
  lists ← pod_lists site meta spec
  Ok (pod_of parts lists.0 lists.1)
