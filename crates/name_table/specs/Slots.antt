-- What contracts see of a table by name: its slots, and the finite map that they hold.
use Rattle.std.specs.Prelude.{◌≡◌, ℕ, ◌-◌, Bool, false, List, [], ◌∷◌, ◌++◌, Option, None, Some, length, replicate, slice_index_or, slice_set}
use Rattle.std.specs.declared.cmp.Ordering.{Ordering}
use Rattle.std.specs.Ordering.{nat_cmp}
use Rattle.std.specs.Option.{option_map, option_map_or}
use Rattle.std.specs.List.{position}
use Rattle.std.specs.Str.{bytes_eq}
use Rattle.std.specs.Cmp.Lexicographic.{slice_cmp}
use Rattle.std.specs.FinMap.{FinMap, from_entries}
use Rattle.name_table.specs.declared.entry.Entry.{Entry}

-- names in the order of their bytes
abbrev pub name_cmp : List ℕ → List ℕ → Ordering
name_cmp = slice_cmp nat_cmp

-- a table's slots, each free or with a name and its value
abbrev pub Slots : Type 0 → Type 0
Slots X = List (Option (Entry X))

-- these slots, and free ones up to so many
abbrev pub with_free : {X : Type 0} → Slots X → ℕ → Slots X
with_free s room = s ++ replicate (room - length s) None

-- what a slot has, and None past the last
abbrev pub entry_in : {X : Type 0} → Slots X → ℕ → Option (Entry X)
entry_in s i = slice_index_or s i None

-- the name in a slot
abbrev pub name_in : {X : Type 0} → Slots X → ℕ → Option (List ℕ)
name_in s i = option_map (λ e. e.name) (entry_in s i)

-- the value in a slot
abbrev pub value_in : {X : Type 0} → Slots X → ℕ → Option X
value_in s i = option_map (λ e. e.value) (entry_in s i)

-- an entry with another value
abbrev pub with_value : {X : Type 0} → Option (Entry X) → X → Option (Entry X)
with_value None v = None
with_value (Some e) v = Some (record e { value = v })

-- slots with another value in one that has a name
abbrev pub put_in : {X : Type 0} → Slots X → ℕ → X → Slots X
put_in s i v = slice_set s i (with_value (entry_in s i) v)

-- whether a slot has this name
abbrev pub has_name : {X : Type 0} → List ℕ → Option (Entry X) → Bool
has_name name o = option_map_or (λ e. bytes_eq name e.name) o false

-- the slot of a name
abbrev pub slot_of : {X : Type 0} → Slots X → List ℕ → Option ℕ
slot_of s name = position (has_name name) s

-- the names and values that are there, in the order of their slots
abbrev pub filled : {X : Type 0} → Slots X → List (List ℕ × X)
filled [] = []
filled (None ∷ s) = filled s
filled (Some e ∷ s) = (e.name, e.value) ∷ filled s

-- the finite map that the slots hold
abbrev pub map_of : {X : Type 0} → Slots X → FinMap name_cmp X
map_of s = from_entries (filled s)

-- no two slots have one name
unfoldable pub NamesOnce : {X : Type 0} → Slots X → Type 0
NamesOnce s = (i j : ℕ) (name : List ℕ) → name_in s i ≡ Some name → name_in s j ≡ Some name → i ≡ j
