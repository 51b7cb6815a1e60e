-- Fields that are arrays, and the items in them.
use Rattle.std.specs.Prelude.{ℕ, suc, ◌&&◌, ◌==◌, List, [], ◌∷◌, ◌++◌, Result, Ok, Err, nat_le, if◌then◌else◌}
use Rattle.std.specs.Option.{ok_or}
use Rattle.serde_json.specs.Data.{Data, Items, no_items, item}
use Rattle.serde_json.specs.Find.{as_array, get_item}
use Rattle.manifest.specs.declared.field.Field.{Field}
use Rattle.manifest.specs.declared.fault.LineFault.{LineFault}
use Rattle.manifest.specs.declared.fault.LineFault.TheVariants.{BadField, OverLimit}
use Rattle.manifest.specs.Reading.{◌>>=◌, text}

-- how many items there are
abbrev pub count : Items → ℕ
count no_items = 0
count (item d ds) = suc (count ds)

-- an array of least to most items
unfoldable pub items : (least most : ℕ) → Field → Data → Result Items LineFault
items least most field value = do
  found ← ok_or (as_array value) (BadField field)
  if nat_le least (count found) && nat_le (count found) most then Ok found else Err (OverLimit field)

-- the items in their order, each read beside those before it; the first fault is told
abbrev pub each : {A : Type 0} → (List A → Data → Result A LineFault) → List A → Items → Result (List A) LineFault
each read before no_items = Ok before
each read before (item d ds) = do
  x ← read before d
  each read (before ++ x ∷ []) ds

-- an array of least to most items, and how each is read
unfoldable pub list : {A : Type 0} → (least most : ℕ) → (Field → List A → Data → Result A LineFault) → Field → Data → Result (List A) LineFault
list least most read field value = do
  found ← items least most field value
  each (read field) [] found

-- an item that is an array of so many parts
unfoldable pub parts : ℕ → Field → Data → Result Items LineFault
parts n field value = do
  found ← ok_or (as_array value) (BadField field)
  if count found == n then Ok found else Err (BadField field)

-- the text that is the part at a place
unfoldable pub part : ℕ → Field → Items → Result (List ℕ) LineFault
part place field found = do
  value ← ok_or (get_item place found) (BadField field)
  text field value
