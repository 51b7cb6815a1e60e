-- What the fields of an object say. The first fault is told.
use Rattle.std.specs.Prelude.{ℕ, Bool, true, false, List, [], ◌∷◌, ◌++◌, Option, Some, None, Result, Ok, Err, is_some, unwrap_or, option_and_then, if◌then◌else◌}
use Rattle.std.specs.Option.{ok_or}
use Rattle.serde_json.specs.Data.{Data, Items, no_items, item, Members, no_members, member}
use Rattle.serde_json.specs.Data as values
use Rattle.serde_json.specs.Find.{get, as_null, as_array, as_object, as_bool, as_str}
use Rattle.quant.specs.Name.{is_name}
use Rattle.objects.specs.declared.fault.Why.TheVariants.{BadField, BadName}
use Rattle.objects.specs.LeftOut.{Fault, refused}
use Rattle.objects.specs.Quantity.{◌>>=◌}

-- a value that says something: null stands for an absent field
abbrev pub said : Data → Option Data
said value = if is_some (as_null value) then None else Some value

-- the value under a key, where there is one
unfoldable pub field : (key : List ℕ) → Data → Option Data
field key json = option_and_then said (get key json)

-- a field of a field
abbrev pub within : (outer inner : List ℕ) → Data → Option Data
within outer inner json = option_and_then (field inner) (field outer json)

-- a field that has to be there
unfoldable pub part_of : (key : List ℕ) → Data → Result Data Fault
part_of key json = ok_or (field key json) (refused BadField key)

-- a text that has to be there
unfoldable pub text_at : (key : List ℕ) → Data → Result (List ℕ) Fault
text_at key json = ok_or (option_and_then as_str (field key json)) (refused BadField key)

-- a text that stands for another where it is absent
abbrev pub text_of : (key absent : List ℕ) → Option Data → Result (List ℕ) Fault
text_of key absent None = Ok absent
text_of key absent (Some value) = ok_or (as_str value) (refused BadField key)

unfoldable pub text_or : (key absent : List ℕ) → Data → Result (List ℕ) Fault
text_or key absent json = text_of key absent (field key json)

-- a name that has to be there
unfoldable pub name_at : (key : List ℕ) → Data → Result (List ℕ) Fault
name_at key json = text_at key json >>= λ text. if is_name text then Ok text else Err (refused BadName key)

-- yes or no, which is no where it is absent
abbrev pub flag_of : (key : List ℕ) → Option Data → Result Bool Fault
flag_of key None = Ok false
flag_of key (Some value) = ok_or (as_bool value) (refused BadField key)

-- the members of an object, of which there are none where it is absent
abbrev pub members_of : (key : List ℕ) → Option Data → Result Members Fault
members_of key None = Ok no_members
members_of key (Some value) = ok_or (as_object value) (refused BadField key)

-- the items of an array, of which there are none where it is absent
abbrev pub items_of : (key : List ℕ) → Option Data → Result Items Fault
items_of key None = Ok no_items
items_of key (Some value) = ok_or (as_array value) (refused BadField key)

-- what is read of items, one behind the other; the first fault is told
abbrev pub each : {A : Type 0} → (List A → Data → Result A Fault) → (before : List A) → Items → Result (List A) Fault
each f before no_items = Ok before
each f before (item d rest) = f before d >>= λ x. each f (before ++ x ∷ []) rest

-- the text in a field, which is empty where there is none
abbrev pub spelled : (key : List ℕ) → Data → List ℕ
spelled key json = unwrap_or (option_and_then as_str (field key json)) []

-- what is said of a value that may be absent
abbrev pub absent_or : {A B : Type 0} → (absent : B) → (A → B) → Option A → B
absent_or absent there None = absent
absent_or absent there (Some x) = there x

-- whether something stands in a value: an empty array or object is nothing
abbrev pub is_something : Data → Bool
is_something (values.array no_items) = false
is_something (values.object no_members) = false
is_something value = true

abbrev pub is_given : Option Data → Bool
is_given value = absent_or false is_something value

-- whether a value has a member of this name
abbrev pub has : Option Data → (key : List ℕ) → Bool
has value key = is_some (option_and_then (get key) value)
