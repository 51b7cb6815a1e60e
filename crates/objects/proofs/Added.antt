-- What the writers of an array's items and of an object's fields have added to a line.
use Rattle.std.proofs.Common.{◌≡◌, ℕ, suc, ◌+◌, ◌<◌, ◌≤◌, List, [], ◌∷◌, ◌++◌, length, get_or, drop, ap, sym, ◌∙◌, append_assoc, add-one, Result, Ok, Err, OnOk}
use Rattle.std.proofs.Math.Seq.{drop-cons}
use Rattle.std.proofs.lemmas.List.{drop_all}
use Rattle.json.specs.Json.{Json}
use Rattle.json.specs.Token.{Token, begin_array, end_array, key}
use Rattle.json.specs.Tree.{json_tokens, items_tokens, members_tokens}
use Rattle.objects.specs.declared.line_field.Field.{Field}
use Rattle.objects.specs.inside.Line.{items_json}
use Rattle.objects.specs.inside.Fields.{field_json, members_json}

-- what the last writer adds is known, unless memory ran out
pub with_last : {E : Type 0} (r : Result (Unit {0}) E) (P Q : Type 0) → OnOk r P → (P → Q) → OnOk r Q
with_last (Ok x) P Q told f = f told
with_last (Err e) P Q told f = tt

-- the item at a place, and those behind it
item_there : {A : Type 0} (xs : List A) (i : ℕ) (x : A) → i < length xs → x ≡ get_or xs i x → drop i xs ≡ x ∷ drop (i + 1) xs
item_there xs i x h is = drop-cons xs i x h ∙ ap (λ y. y ∷ drop (suc i) xs) (sym is) ∙ ap (λ n. x ∷ drop n xs) (sym (add-one i))

-- one item more of an array, and its end
pub more_items : {A : Type 0} (f : A → Json) (xs : List A) (i : ℕ) (x : A) (old new : List Token) → i < length xs → x ≡ get_or xs i x → new ≡ old ++ json_tokens (f x)
    → old ++ items_tokens (items_json f (drop i xs)) ≡ new ++ items_tokens (items_json f (drop (i + 1) xs))
more_items f xs i x old new h is e =
    ap (λ ys. old ++ items_tokens (items_json f ys)) (item_there xs i x h is)
    ∙ sym (append_assoc old (json_tokens (f x)) (items_tokens (items_json f (drop (i + 1) xs))))
    ∙ ap (λ l. l ++ items_tokens (items_json f (drop (i + 1) xs))) (sym e)

no_more_items : {A : Type 0} (f : A → Json) (xs : List A) (i : ℕ) (old new : List Token) → length xs ≤ i → new ≡ old ++ end_array ∷ []
    → new ≡ old ++ items_tokens (items_json f (drop i xs))
no_more_items f xs i old new h e = e ∙ ap (λ ys. old ++ items_tokens (items_json f ys)) (sym (drop_all i xs h))

-- an array, from its beginning to its end
pub array_told : {A : Type 0} (f : A → Json) (xs : List A) (i : ℕ) (old begun before new : List Token)
    → begun ≡ old ++ begin_array ∷ []
    → begun ++ items_tokens (items_json f xs) ≡ before ++ items_tokens (items_json f (drop i xs)) → length xs ≤ i → new ≡ before ++ end_array ∷ []
    → new ≡ old ++ begin_array ∷ items_tokens (items_json f xs)
array_told f xs i old begun before new b all h e = no_more_items f xs i before new h e ∙ sym all ∙ rw b (simp append_assoc)

-- one field more of an object
pub more_fields : {A : Type 0} (name : A → List ℕ) (says : A → Field) (xs : List A) (i : ℕ) (x : A) (old named new : List Token) → i < length xs → x ≡ get_or xs i x
    → named ≡ old ++ key (name x) ∷ [] → new ≡ named ++ json_tokens (field_json (says x))
    → old ++ members_tokens (members_json name says (drop i xs)) ≡ new ++ members_tokens (members_json name says (drop (i + 1) xs))
more_fields name says xs i x old named new h is k e =
    ap (λ ys. old ++ members_tokens (members_json name says ys)) (item_there xs i x h is)
    ∙ rw (e, k) (simp append_assoc)
