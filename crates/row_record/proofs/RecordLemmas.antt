-- How many bytes the labels, taints and tolerations of a record take, and what the loop over the
-- places of labels wrote.
use Rattle.std.proofs.Common.{◌≡◌, ℕ, ◌+◌, ◌≤◌, List, [], ◌∷◌, ◌++◌, Some, length, map, take, sum_by, refl, sym, ap, ◌∙◌, arith, length-append}
use Rattle.std.specs.List.{flat_map}
use Rattle.std.proofs.lemmas.List.Concat.{length-flat_map}
use Rattle.std.proofs.lemmas.List.Folds.{flat_map-map}
use Rattle.std.proofs.lemmas.List.{append_assoc, take_all}
use Rattle.std.proofs.lemmas.List.Sums.{sum_by-cons}
use Rattle.std.proofs.lemmas.List.Sorted.{sum_by-IsPermutation}
use Rattle.quant.specs.declared.objects.Label.{Label}
use Rattle.row_record.specs.KeyOrder.{in_key_order}
use Rattle.row_record.specs.inside.KeyOrder.{label_at}
use Rattle.quant.specs.declared.taint.Taint.{Taint}
use Rattle.quant.specs.declared.taint.Toleration.{Toleration}
use Rattle.row_record.specs.Record.{text_field, effect_code, operator_code, label_field, labels_field, labels_size, taint_field, taints_field, taints_size, toleration_field, tolerations_field, tolerations_size}
use Rattle.row_record.proofs.KeyOrderLemmas.{order_moves}

-- a label's bytes
label_length : (label : Label) → length (label_field label) ≡ 2 + length label.key + length label.value
label_length label = rw (length-append (text_field label.key) (text_field label.value)) (omega arith)

-- what is summed by two functions that give the same
sum_same : {X : Type 0} (f g : X → ℕ) → ((x : X) → f x ≡ g x) → (xs : List X) → sum_by f xs ≡ sum_by g xs
sum_same f g e [] = refl
sum_same f g e (x ∷ xs) = rw (sum_by-cons f x xs, sum_by-cons g x xs, e x, sum_same f g e xs) refl

pub labels_length : (labels : List Label) → length (labels_field labels) ≡ labels_size labels
labels_length labels =
    let size : Label → ℕ = λ l. 2 + length l.key + length l.value in
    let fields = length-flat_map label_field (in_key_order labels) in
    let same = sum_same (λ (l : Label). length (label_field l)) size label_length (in_key_order labels) in
    let sum = sum_by-IsPermutation size labels (in_key_order labels) (order_moves labels) in
    omega (arith, fields, same, sum)

-- the labels at all places of the order, one after the other
pub at_all_places : (labels : List Label) (order : List ℕ) (n : ℕ) → length order ≤ n → map (label_at labels) order ≡ in_key_order labels
    → flat_map (λ place. label_field (label_at labels place)) (take n order) ≡ flat_map label_field (in_key_order labels)
at_all_places labels order n h e =
    rw (take_all n order h) (sym (flat_map-map label_field (label_at labels) order) ∙ ap (λ (ls : List Label). flat_map label_field ls) e)

-- the labels in order, behind their count
pub with_count : (before : List ℕ) (labels : List Label) (counted after : List ℕ) → counted ≡ before ++ length labels ∷ []
    → after ≡ counted ++ flat_map label_field (in_key_order labels) → after ≡ before ++ labels_field labels
with_count before labels counted after count is =
    let fields : List ℕ = flat_map label_field (in_key_order labels) in
    is ∙ ap (λ (bytes : List ℕ). bytes ++ fields) count ∙ append_assoc before (length labels ∷ []) fields

-- a taint's bytes, and those of taints
taint_length : (taint : Taint) → length (taint_field taint) ≡ 3 + length taint.key + length taint.value
taint_length taint =
    let effect : List ℕ = effect_code (Some taint.effect) ∷ [] in
    rw (length-append (text_field taint.key ++ text_field taint.value) effect, length-append (text_field taint.key) (text_field taint.value)) (omega arith)

pub taints_length : (taints : List Taint) → length (taints_field taints) ≡ taints_size taints
taints_length taints =
    let size : Taint → ℕ = λ t. 3 + length t.key + length t.value in
    let fields = length-flat_map taint_field taints in
    let same = sum_same (λ (t : Taint). length (taint_field t)) size taint_length taints in
    omega (arith, fields, same)

-- a toleration's bytes, and those of tolerations
toleration_length : (toleration : Toleration) → length (toleration_field toleration) ≡ 4 + length toleration.key + length toleration.value
toleration_length toleration =
    let middle : List ℕ = operator_code toleration.operator ∷ text_field toleration.value in
    let effect : List ℕ = effect_code toleration.effect ∷ [] in
    rw (length-append (text_field toleration.key ++ middle) effect, length-append (text_field toleration.key) middle) (omega arith)

pub tolerations_length : (tolerations : List Toleration) → length (tolerations_field tolerations) ≡ tolerations_size tolerations
tolerations_length tolerations =
    let size : Toleration → ℕ = λ t. 4 + length t.key + length t.value in
    let fields = length-flat_map toleration_field tolerations in
    let same = sum_same (λ (t : Toleration). length (toleration_field t)) size toleration_length tolerations in
    omega (arith, fields, same)
