-- What an object of the API, or an event of its watch, tells as of the object's own version: what a
-- script's line tells of it; and of a pod that has no node and that no script is told of, that it
-- is there. And what of it isn't told.
use Rattle.std.specs.Prelude.{◌≡◌, ℕ, Bool, true, false, not, ◌&&◌, ◌||◌, nat_le, List, [], drop, length, codes, bytes_eq, Option, Some, Result, Ok, Err, is_some, if◌then◌else◌}
use Rattle.std.specs.Option.{ok_or}
use Rattle.serde_json.specs.Data.{Data}
use Rattle.serde_json.specs.View.{view}
use Rattle.serde_json.specs.declared.value.Value.{Value}
use Rattle.quant.specs.Amount.{is_digits, number}
use Rattle.quant.specs.declared.version.Version.{Version}
use Rattle.quant.specs.declared.event.Event as quant
use Rattle.quant.specs.declared.event.Event.TheVariants.{PodPending}
use Rattle.objects.specs.declared.change.Kind.{Kind}
use Rattle.objects.specs.declared.change.Kind.TheVariants.{Pod}
use Rattle.objects.specs.declared.fault.Why.TheVariants.{BadField, LongLine, NotJson}
use Rattle.objects.specs.declared.heard.Heard.{Heard}
use Rattle.objects.specs.declared.heard.Heard.TheVariants.{Event, Withheld, Nothing, Unread}
use Rattle.objects.specs.declared.heard.NoValue.{NoValue}
use Rattle.objects.specs.declared.heard.NoValue.TheVariants as no_values
use Rattle.objects.specs.declared.translation.TheConstants.{MAX_OBJECT}
use Rattle.objects.specs.Quantity.{◌>>=◌}
use Rattle.objects.specs.LeftOut.{Fault, refused, fault_text, left_out, told_names}
use Rattle.objects.specs.Reading.{field, part_of, text_at, name_at, absent_or, spelled}
use Rattle.objects.specs.Site.{Site}
use Rattle.objects.specs.Told.{object_in, has_ended, node_name, kind_of, is_bookmark, value_told, is_blank, parsed}

-- the version of an object, which is told as a number (the page "Kubernetes API Concepts", on
-- resource versions)
abbrev pub a_version : List ℕ → Result Version Fault
a_version text =
    if is_digits 18 text && nat_le 1 (number text) then Ok (record { 0 = number text }) else Err (refused BadField (codes "resourceVersion"))

unfoldable pub version_in : (object : Data) → Result Version Fault
version_in json = do
  meta ← part_of (codes "metadata") json
  text ← text_at (codes "resourceVersion") meta
  a_version text

unfoldable pub uid_in : (object : Data) → Result (List ℕ) Fault
uid_in json = part_of (codes "metadata") json >>= name_at (codes "uid")

-- an event that shows no object that is there: a deletion, or a bookmark, whose object is one of its
-- kind without a name
abbrev pub is_none_type : (type : List ℕ) → Bool
is_none_type type = bytes_eq type (codes "DELETED") || is_bookmark type

unfoldable pub shows_none : Data → Bool
shows_none json = is_some (field (codes "object") json) && is_none_type (spelled (codes "type") json)

-- a pod that is there, and has no node

abbrev pub is_pod : Result (Option Kind) Fault → Bool
is_pod (Ok (Some Pod)) = true
is_pod kind = false

abbrev pub is_no_name : Result (List ℕ) Fault → Bool
is_no_name (Ok []) = true
is_no_name name = false

abbrev pub has_no_node : Option Data → Bool
has_no_node spec = absent_or false (λ s. is_no_name (node_name s)) spec

unfoldable pub is_waiting : Data → Bool
is_waiting json = is_pod (kind_of json) && not (has_ended json) && has_no_node (field (codes "spec") json)

-- a pod that waits, with its row
abbrev pub is_row : Option quant.Event → Bool
is_row (Some (PodPending version pod)) = true
is_row event = false

abbrev pub heard_by : Version → (json : Data) → Option quant.Event → Result Heard Fault
heard_by version json event =
    if not (is_row event) && not (shows_none json) && is_waiting (object_in json)
    then (do
      uid ← uid_in (object_in json)
      Ok (Withheld version uid))
    else Ok (absent_or Nothing Event event)

-- what is heard of an object, and the names of what is left out of it
pub record Hearing : Type 0 where
  pub heard : Heard
  pub left_out : List ℕ

abbrev pub hears : Heard → (left_out : List ℕ) → Hearing
hears heard left_out = record { heard = heard; left_out = left_out }

unfoldable pub heard_of : Site → Data → Result Hearing Fault
heard_of site json = do
  version ← version_in (object_in json)
  told ← value_told site true version json
  heard ← heard_by version json told.event
  Ok (hears heard told.left_out)

-- what has a fault may be a pod on a node: the fault is named
abbrev pub or_unread : Result Hearing Fault → Hearing
or_unread (Ok hearing) = hearing
or_unread (Err fault) = hears Unread (fault_text fault)

unfoldable pub hearing : Site → Data → Hearing
hearing site json = or_unread (heard_of site json)

abbrev pub heard : Site → Data → Heard
heard site json = (hearing site json).heard

-- the names as a translation has them, without the comma and the space before the first
abbrev pub names_of : Hearing → List ℕ
names_of hearing = drop 2 (told_names hearing.left_out)

-- ---- a line

-- the value of a line, or why it has none: it is too long to be read, has no byte but spaces, or is
-- no JSON
unfoldable pub value_in : (line : List ℕ) → Result Data NoValue
value_in line =
    if not (nat_le (length line) MAX_OBJECT) then Err no_values.LongLine
    else if is_blank line then Err no_values.Blank
    else ok_or (parsed line) no_values.NotJson

-- what was read of a line is its value, or why it has none
abbrev pub IsValue : Result Value NoValue → Result Data NoValue → Type 0
IsValue (Ok value) found = found ≡ Ok (view value)
IsValue (Err why) found = found ≡ Err why

-- what is heard of a line that has none: a blank one tells nothing, and another may be a pod on a
-- node
abbrev pub none_heard : NoValue → Hearing
none_heard no_values.LongLine = hears Unread (fault_text (refused LongLine []))
none_heard no_values.Blank = hears Nothing (left_out (codes "no JSON") [])
none_heard no_values.NotJson = hears Unread (fault_text (refused NotJson []))
