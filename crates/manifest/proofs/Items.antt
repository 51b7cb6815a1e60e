-- What the readers of items need to know of the items of a JSON array.
use Rattle.std.proofs.Common.{◌≡◌, ◌<◌, ◌&&◌, ℕ, suc, false, nat_le, nat_lt, List, [], ◌∷◌, length, Option, Some, None, Err, option_map, refl, ap, ◌∙◌, arith}
use Rattle.std.proofs.lemmas.Bool.Decides.{nat_tests}
use Rattle.std.specs.Slice.{IsItemAt}
use Rattle.serde_json.specs.Data.{Data}
use Rattle.serde_json.specs.Find.{as_array, get_item}
use Rattle.serde_json.specs.View.{view, items_view}
use Rattle.serde_json.specs.declared.value.Value.{Value}
use Rattle.serde_json.proofs.Views.{get_item_within, get_item_past}
use Rattle.manifest.specs.declared.fault.LineFault.TheVariants.{OverLimit}
use Rattle.manifest.specs.declared.field.Field.{Field}
use Rattle.manifest.specs.Item.{count, items}
use denote.Ref.{Bor}

-- an array has as many items as the list that holds them has elements
pub count_of_items_view : (xs : List Value) → count (items_view xs) ≡ length xs
count_of_items_view [] = refl
count_of_items_view (x ∷ xs) = ap suc (count_of_items_view xs)

-- what a list's `get` gives is the item at that place
pub get_item_of_get : (xs : List Value) (i : ℕ) (r : Option (Bor Value)) → IsItemAt xs i r → option_map (λ v. view v.now) r ≡ get_item i (items_view xs)
get_item_of_get xs i None h = let e : false ≡ nat_lt i (length xs) = h.0 in get_item_past xs i (grind (arith, nat_tests))
get_item_of_get xs i (Some x) h = ap (λ v. Some (view v)) h.1 ∙ get_item_within xs i x.now h.3.0

-- an array of fewer items than the least, or of more than the most
pub items_out : (value : Data) (found : List Value) (least most : ℕ) (field : Field) → Some (items_view found) ≡ as_array value
    → (nat_le least (length found) && nat_le (length found) most) ≡ false → items least most field value ≡ Err (OverLimit field)
unfolding items
items_out value found least most field is out = rw (← is, count_of_items_view found, out) refl

pub too_few : (least most n : ℕ) → n < least → (nat_le least n && nat_le n most) ≡ false
too_few least most n few = grind (arith, nat_tests)

pub too_many : (least most n : ℕ) → most < n → (nat_le least n && nat_le n most) ≡ false
too_many least most n many = grind (arith, nat_tests)
