-- A row that is filled by the items of an array, one after the other.
use Rattle.std.proofs.Common.{◌≡◌, ◌∙◌, ℕ, suc, ◌+◌, ◌<◌, ◌≤◌, List, [], ◌∷◌, ◌++◌, length, drop, get_or, Result, Ok, Err, false, drop-cons, add-one, ap, ap₂, sym, subst, true≢false}
use Rattle.std.proofs.lemmas.List.{at_drop_all}
use Rattle.std.specs.Prelude.{IfOk}
use Rattle.std.specs.Result.{is_err}
use Rattle.serde_json.specs.Data.{Data}
use Rattle.serde_json.specs.View.{view, items_view}
use Rattle.serde_json.specs.declared.value.Value.{Value}
use Rattle.manifest.specs.declared.fault.LineFault.{LineFault}
use Rattle.manifest.specs.Item.{each}
use Rattle.manifest.specs.Reading.{◌>>=◌, Fails}
use Rattle.manifest.proofs.Steps.{first_fails, gives}

-- what is known where nothing failed
pub where_ok : {X E P : Type 0} (r : Result X E) → false ≡ is_err r → IfOk r (λ _. P) → P
where_ok (Ok x) is h = h
where_ok (Err e) is h = absurd (true≢false (sym is))

-- the items from a place on are the one that stands there, and those behind it
each_at : {A : Type 0} (read : List A → Data → Result A LineFault) (row : List A) (xs : List Value) (i : ℕ) (item : Value) → i < length xs → item ≡ get_or xs i item
    → each read row (items_view (drop i xs)) ≡ (read row (view item) >>= λ next. each read (row ++ next ∷ []) (items_view (drop (i + 1) xs)))
each_at read row xs i item within is =
    let first : drop i xs ≡ get_or xs i item ∷ drop (suc i) xs = drop-cons xs i item within in
    let same : drop i xs ≡ item ∷ drop (i + 1) xs = first ∙ ap₂ (λ x n. x ∷ drop n xs) (sym is) (sym (add-one i)) in
    ap (λ l. each read row (items_view l)) same

-- one that is read stands behind the others
pub one_read : {A : Type 0} (read : List A → Data → Result A LineFault) (row now new : List A) (xs : List Value) (i : ℕ) (item : Value) (next : A) → i < length xs
    → item ≡ get_or xs i item → now ≡ row → read now (view item) ≡ Ok next → new ≡ row ++ next ∷ []
    → each read row (items_view (drop i xs)) ≡ each read new (items_view (drop (i + 1) xs))
one_read read row now new xs i item next within is same was pushed =
    each_at read row xs i item within is
    ∙ gives (read row (view item)) next (λ x. each read (row ++ x ∷ []) (items_view (drop (i + 1) xs))) _ (ap (λ r. read r (view item)) (sym same) ∙ was)
    (ap (λ r. each read r (items_view (drop (i + 1) xs))) (sym pushed))

-- where all are read, the row is what they give
pub all_filled : {A : Type 0} (read : List A → Data → Result A LineFault) (before first row : List A) (xs : List Value) (i : ℕ) → first ≡ before → length xs ≤ i
    → each read first (items_view xs) ≡ each read row (items_view (drop i xs)) → each read before (items_view xs) ≡ Ok row
all_filled read before first row xs i begun past same =
    ap (λ r. each read r (items_view xs)) (sym begun) ∙ same ∙ at_drop_all (λ l. each read row (items_view l)) xs i past

-- where one is faulty, so are they all
pub one_fails : {A : Type 0} (read : List A → Data → Result A LineFault) (before first row now : List A) (xs : List Value) (i : ℕ) (item : Value) (e : LineFault) → first ≡ before
    → i < length xs → item ≡ get_or xs i item → now ≡ row → each read first (items_view xs) ≡ each read row (items_view (drop i xs)) → Fails e (read now (view item))
    → Fails e (each read before (items_view xs))
one_fails read before first row now xs i item e begun within is shown same fails =
    subst (Fails e) (sym (ap (λ r. each read r (items_view xs)) (sym begun) ∙ same ∙ each_at read row xs i item within is))
    (first_fails e (read row (view item)) _ (subst (λ r. Fails e (read r (view item))) shown fails))
