-- Labels that are in order from one on, and from the one in front of it on.
use Rattle.std.proofs.Common.{◌≡◌, ℕ, zero, suc, ◌+◌, ◌<◌, ◌≤◌, Bool, true, false, not, ◌&&◌, List, [], ◌∷◌, length, drop, get_or, refl, sym, ap, ◌∙◌, arith, drop-cons, add-one}
use Rattle.quant.specs.declared.objects.Label.{Label}
use Rattle.quant.specs.Name.{is_before}
use Rattle.quant.specs.LabelOrder.{are_in_order}

-- the label at a place, or one of no texts
abbrev pub label_at : List Label → ℕ → Label
label_at labels place = get_or labels place (record { key = []; value = [] })

neither : (b : Bool) → (b && false) ≡ false
neither true = refl
neither false = refl

-- in front of labels that are in order stands one whose key doesn't come behind the first
front_too : (label next : Label) (rest : List Label) → is_before next.key label.key ≡ false → are_in_order (next ∷ rest) ≡ true
    → are_in_order (label ∷ next ∷ rest) ≡ true
front_too label next rest behind later = rw (behind, later) refl

-- where the labels behind a place are in order, and the first of them doesn't come before that at
-- the place, those from the place on are
pub one_in_front : (labels : List Label) (place : ℕ) → place + 1 < length labels
    → is_before (label_at labels (place + 1)).key (label_at labels place).key ≡ false
    → are_in_order (drop (place + 1) labels) ≡ true → are_in_order (drop place labels) ≡ true
one_in_front labels place h behind later =
    let none : Label = record { key = []; value = [] } in
    let inside : place < length labels = omega arith in
    let rest : List Label = drop (suc (place + 1)) labels in
    let from_there : drop (place + 1) labels ≡ label_at labels (place + 1) ∷ rest = drop-cons labels (place + 1) none h in
    let from_here : drop place labels ≡ label_at labels place ∷ drop (place + 1) labels = rw (drop-cons labels place none inside, add-one) refl in
    ap are_in_order (from_here ∙ ap (λ (ls : List Label). label_at labels place ∷ ls) from_there)
    ∙ front_too (label_at labels place) (label_at labels (place + 1)) rest behind (ap are_in_order (sym from_there) ∙ later)

-- what is left behind all labels but one is in order
pub last_in_order : (labels : List Label) (n : ℕ) → length labels ≤ n + 1 → are_in_order (drop n labels) ≡ true
last_in_order [] zero h = refl
last_in_order [] (suc n) h = refl
last_in_order (label ∷ []) zero h = refl
last_in_order (label ∷ next ∷ rest) zero h = absurd (omega (arith, h))
last_in_order (label ∷ rest) (suc n) h = last_in_order rest n (omega (arith, h))

-- where a key comes before the one in front of it, the labels aren't in order
pub out_of_order : (labels : List Label) (place : ℕ) (c d : Label) → suc place < length labels
    → is_before (get_or labels (suc place) c).key (get_or labels place d).key ≡ true → are_in_order labels ≡ false
out_of_order [] place c d h e = absurd (omega (arith, h))
out_of_order (label ∷ []) place c d h e = absurd (omega (arith, h))
out_of_order (label ∷ next ∷ rest) zero c d h e = rw e refl
out_of_order (label ∷ next ∷ rest) (suc place) c d h e =
    rw (out_of_order (next ∷ rest) place c d (omega (arith, h)) e) (neither (not (is_before next.key label.key)))
