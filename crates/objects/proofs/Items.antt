-- What the readers of arrays and objects need to know of what stands in them.
use Rattle.std.proofs.Common.{◌≡◌, ℕ, suc, ◌==◌, true, not, List, [], ◌∷◌, length, Option, Some, None, is_some, option_map, Vec, BTreeMap, Global, String, refl, sym, ap, ◌∙◌, arith}
use Rattle.std.proofs.lemmas.Bool.Decides.{nat_tests}
use Rattle.serde_json.specs.Data.{array, object}
use Rattle.serde_json.specs.View.{view, items_view, members_view}
use Rattle.serde_json.specs.declared.value.Value.{Value, Array, Object}
use Rattle.serde_json.proofs.Views.{Entry, view-Array, view-Object}
use Rattle.objects.specs.Containers.{count}
use Rattle.objects.specs.Labels.{count_members}
use Rattle.objects.specs.Reading.{is_something}

-- something is there just where it was before each was changed
pub some_of_map : {A B : Type 0} (f : A → B) (o : Option A) → is_some (option_map f o) ≡ is_some o
some_of_map f None = refl
some_of_map f (Some x) = refl

-- an array has as many items as the list that holds them has elements
pub count_of_items_view : (xs : List Value) → count (items_view xs) ≡ length xs
count_of_items_view [] = refl
count_of_items_view (x ∷ xs) = ap suc (count_of_items_view xs)

-- an object has as many members as the map that holds them has entries
pub count_of_members_view : (es : List Entry) → count_members (members_view es) ≡ length es
count_of_members_view [] = refl
count_of_members_view (e ∷ es) = ap suc (count_of_members_view es)

-- something stands in an array that isn't empty, and in an object that isn't
not_none : (n : ℕ) → not (suc n == 0) ≡ true
not_none n = grind (arith, nat_tests)

items_are_something : (xs : List Value) → is_something (array (items_view xs)) ≡ not (length xs == 0)
items_are_something [] = refl
items_are_something (x ∷ xs) = sym (not_none (length xs))

members_are_something : (es : List Entry) → is_something (object (members_view es)) ≡ not (length es == 0)
members_are_something [] = refl
members_are_something (e ∷ es) = sym (not_none (length es))

pub array_is_something : (value : Value) (items : Vec Value Global) → value ≡ Array items → is_something (view value) ≡ not (length items.items == 0)
array_is_something value items h = ap (λ v. is_something (view v)) h ∙ ap is_something (view-Array items) ∙ items_are_something items.items

pub object_is_something : (value : Value) (members : BTreeMap (String Global) Value) → value ≡ Object members
    → is_something (view value) ≡ not (length members.entries == 0)
object_is_something value members h = ap (λ v. is_something (view v)) h ∙ ap is_something (view-Object members) ∙ members_are_something members.entries
