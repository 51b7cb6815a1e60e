-- What is read of items, one behind the other.
use Rattle.std.proofs.Common.{◌≡◌, ℕ, suc, ◌+◌, ◌<◌, ◌≤◌, Bool, true, ◌&&◌, codes, List, [], ◌∷◌, ◌++◌, length, get_or, drop, Result, Ok, ap, sym, ◌∙◌, add-one}
use Rattle.std.proofs.Math.Seq.{drop-cons}
use Rattle.std.proofs.lemmas.List.{drop_all}
use Rattle.quant.specs.declared.amount.Request.{Request}
use Rattle.quant.specs.declared.taint.Toleration.{Toleration}
use Rattle.serde_json.specs.Data.{Data}
use Rattle.serde_json.specs.View.{view, items_view}
use Rattle.serde_json.specs.declared.value.Value.{Value}
use Rattle.objects.specs.Containers.{held, or_held}
use Rattle.objects.specs.Labels.{Kept, with_item}
use Rattle.objects.specs.LeftOut.{Fault}
use Rattle.objects.specs.PodRequest.{are_read, is_status_read}
use Rattle.objects.specs.PodRow.{toleration_of, tolerations_of}
use Rattle.objects.specs.Quantity.{◌>>=◌}
use Rattle.objects.specs.Reading.{each, spelled}

-- an item, and those behind it
in_front : (xs : List Value) (i : ℕ) (x : Value) → i < length xs → x ≡ get_or xs i x → drop i xs ≡ x ∷ drop (i + 1) xs
in_front xs i x h is = drop-cons xs i x h ∙ ap (λ y. y ∷ drop (suc i) xs) (sym is) ∙ ap (λ n. x ∷ drop n xs) (sym (add-one i))

-- one item more
pub each_more : {A : Type 0} (f : List A → Data → Result A Fault) (xs : List Value) (i : ℕ) (x : Value) (before : List A) (next : A)
    → i < length xs → x ≡ get_or xs i x → f before (view x) ≡ Ok next
    → each f before (items_view (drop i xs)) ≡ each f (before ++ next ∷ []) (items_view (drop (i + 1) xs))
each_more f xs i x before next h is e =
    ap (λ ys. each f before (items_view ys)) (in_front xs i x h is)
    ∙ ap (λ r. r >>= λ y. each f (before ++ y ∷ []) (items_view (drop (i + 1) xs))) e

-- what is read of the next item comes first
pub each_begins : {A : Type 0} (f : List A → Data → Result A Fault) (xs : List Value) (i : ℕ) (x : Value) (before : List A) → i < length xs → x ≡ get_or xs i x
    → each f before (items_view (drop i xs)) ≡ (f before (view x) >>= λ y. each f (before ++ y ∷ []) (items_view (drop (i + 1) xs)))
each_begins f xs i x before h is = ap (λ ys. each f before (items_view ys)) (in_front xs i x h is)

-- no item more
pub each_done : {A : Type 0} (f : List A → Data → Result A Fault) (xs : List Value) (i : ℕ) (before : List A) → length xs ≤ i
    → each f before (items_view (drop i xs)) ≡ Ok before
each_done f xs i before h = ap (λ ys. each f before (items_view ys)) (drop_all i xs h)

-- one toleration more, and no more
pub toleration_more : (xs : List Value) (i : ℕ) (x : Value) (before after : Kept (List Toleration)) → i < length xs → x ≡ get_or xs i x
    → with_item (codes "toleration of ") (spelled (codes "key") (view x)) before (toleration_of before.item (view x)) ≡ after
    → tolerations_of before (items_view (drop i xs)) ≡ tolerations_of after (items_view (drop (i + 1) xs))
toleration_more xs i x before after h is e =
    ap (λ ys. tolerations_of before (items_view ys)) (in_front xs i x h is) ∙ ap (λ k. tolerations_of k (items_view (drop (i + 1) xs))) e

pub tolerations_done : (xs : List Value) (i : ℕ) (kept : Kept (List Toleration)) → length xs ≤ i → tolerations_of kept (items_view (drop i xs)) ≡ kept
tolerations_done xs i kept h = ap (λ ys. tolerations_of kept (items_view ys)) (drop_all i xs h)

-- one status more of a container
pub status_more : (name : List ℕ) (xs : List Value) (i : ℕ) (x : Value) (most more : Request) → i < length xs → x ≡ get_or xs i x
    → or_held name most (view x) ≡ Ok more → held name most (items_view (drop i xs)) ≡ held name more (items_view (drop (i + 1) xs))
status_more name xs i x most more h is e =
    ap (λ ys. held name most (items_view ys)) (in_front xs i x h is) ∙ ap (λ r. r >>= λ m. held name m (items_view (drop (i + 1) xs))) e

-- one status more that is read, and one that isn't
pub read_more : (xs : List Value) (i : ℕ) (x : Value) (is : Bool) → i < length xs → x ≡ get_or xs i x → is ≡ is_status_read (codes "containerStatuses") (view x)
    → are_read (items_view (drop i xs)) ≡ (is && are_read (items_view (drop (i + 1) xs)))
read_more xs i x is h at e =
    ap (λ ys. are_read (items_view ys)) (in_front xs i x h at) ∙ ap (λ b. b && are_read (items_view (drop (i + 1) xs))) (sym e)

pub read_done : (xs : List Value) (i : ℕ) → length xs ≤ i → are_read (items_view (drop i xs)) ≡ true
read_done xs i h = ap (λ ys. are_read (items_view ys)) (drop_all i xs h)
