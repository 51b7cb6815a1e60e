-- What the fields of a line say, as JSON.
use Rattle.std.specs.Prelude.{ℕ, List, [], ◌∷◌, decimal}
use Rattle.std.specs.Fmt.{signed_decimal}
use Rattle.json.specs.Json.{Json, boolean, number, string, array, object, Members, no_members, member}
use Rattle.objects.specs.declared.line_field.Field.{Field}
use Rattle.objects.specs.declared.line_field.Field.TheVariants.{Text, Number, Signed, Flag, Cpu, Memory, Request, Labels, Taints, Tolerations}
use Rattle.objects.specs.inside.Line.{cpu_text, memory_text, label_json, taint_json, toleration_json, request_json, items_json}

abbrev pub field_json : Field → Json
field_json (Text text) = string text.now
field_json (Number n) = number (decimal n)
field_json (Signed n) = number (signed_decimal n)
field_json (Flag flag) = boolean flag
field_json (Cpu cpu) = string (cpu_text cpu)
field_json (Memory mem) = string (memory_text mem)
field_json (Request request) = array (items_json request_json (request.now ∷ []))
field_json (Labels labels) = array (items_json label_json labels.now)
field_json (Taints taints) = array (items_json taint_json taints.now)
field_json (Tolerations tolerations) = array (items_json toleration_json tolerations.now)

-- a member for each field, by its name and what it says
abbrev pub members_json : {A : Type 0} → (A → List ℕ) → (A → Field) → List A → Members
members_json name says [] = no_members
members_json name says (x ∷ xs) = member (name x) (field_json (says x)) (members_json name says xs)

-- the object of these fields
abbrev pub fields_json : {A : Type 0} → (A → List ℕ) → (A → Field) → List A → Json
fields_json name says fields = object (members_json name says fields)
