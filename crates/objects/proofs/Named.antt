-- What is put for the items of an array and the members of an object, one after the other.
use Rattle.std.proofs.Common.{◌≡◌, ℕ, suc, ◌+◌, ◌<◌, ◌≤◌, List, ◌∷◌, ◌++◌, length, get_or, drop, ap, sym, ◌∙◌, append_assoc, append-nil, add-one, Bool}
use Rattle.std.proofs.Math.Seq.{drop-cons}
use Rattle.std.proofs.lemmas.List.{drop_all}
use Rattle.std.specs.Prelude.{String, string_bytes}
use Rattle.std.specs.declared.alloc.Global.{Global}
use Rattle.serde_json.specs.Data.{Data}
use Rattle.serde_json.specs.View.{view, items_view, members_view}
use Rattle.serde_json.specs.declared.value.Value.{Value}
use Rattle.objects.specs.Demands.{each_item, other_resource, other_resources, other_field, other_fields}

-- one item more, and no more
pub item_more : (f : Data → List ℕ) (xs : List Value) (i : ℕ) (x : Value) (old new : List ℕ) → i < length xs → x ≡ get_or xs i x → new ≡ old ++ f (view x)
    → old ++ each_item f (items_view (drop i xs)) ≡ new ++ each_item f (items_view (drop (i + 1) xs))
item_more f xs i x old new h is e =
    ap (λ ys. old ++ each_item f (items_view ys)) (drop-cons xs i x h ∙ ap (λ y. y ∷ drop (suc i) xs) (sym is) ∙ ap (λ n. x ∷ drop n xs) (sym (add-one i)))
    ∙ sym (append_assoc old (f (view x)) (each_item f (items_view (drop (i + 1) xs))))
    ∙ ap (λ l. l ++ each_item f (items_view (drop (i + 1) xs))) (sym e)

pub items_done : (f : Data → List ℕ) (xs : List Value) (i : ℕ) (old new : List ℕ) → length xs ≤ i
    → old ++ each_item f (items_view xs) ≡ new ++ each_item f (items_view (drop i xs)) → new ≡ old ++ each_item f (items_view xs)
items_done f xs i old new h e = sym (e ∙ ap (λ ys. new ++ each_item f (items_view ys)) (drop_all i xs h) ∙ append-nil new)

-- one member more
pub resource_more : (named : List ℕ → Bool) (all rest : List (String Global × Value)) (m : String Global × Value) (old new : List ℕ)
    → all ≡ m ∷ rest → new ≡ old ++ other_resource named (string_bytes m.0) (view m.1)
    → old ++ other_resources named (members_view all) ≡ new ++ other_resources named (members_view rest)
resource_more named all rest m old new is e =
    ap (λ ms. old ++ other_resources named (members_view ms)) is
    ∙ sym (append_assoc old (other_resource named (string_bytes m.0) (view m.1)) (other_resources named (members_view rest)))
    ∙ ap (λ l. l ++ other_resources named (members_view rest)) (sym e)

pub field_more : (all rest : List (String Global × Value)) (m : String Global × Value) (old new : List ℕ)
    → all ≡ m ∷ rest → new ≡ old ++ other_field (string_bytes m.0) (view m.1)
    → old ++ other_fields (members_view all) ≡ new ++ other_fields (members_view rest)
field_more all rest m old new is e =
    ap (λ ms. old ++ other_fields (members_view ms)) is
    ∙ sym (append_assoc old (other_field (string_bytes m.0) (view m.1)) (other_fields (members_view rest)))
    ∙ ap (λ l. l ++ other_fields (members_view rest)) (sym e)
