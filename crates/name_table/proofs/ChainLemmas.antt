-- Lists that links spell, and what they are after a slot is taken out or put first.
use Rattle.std.proofs.Common.{◌≡◌, ℕ, zero, suc, ◌+◌, ◌-◌, ◌<◌, ◌≤◌, Bool, true, false, cond, List, [], ◌∷◌, ◌++◌, length, get_or, set, refl, sym, ap, subst, ◌∙◌, inl, inr, arith, get_or-set_same, get_or-set_other}
use Rattle.std.proofs.Math.Dec.{eqb, ltb}
use Rattle.std.proofs.lemmas.List.{length-set}
use Rattle.std.proofs.lemmas.Bool.{lt-ltb, le-ltb, eq-eqb, ne_eqb, eqb-true, cases_lt, cases_Bool, or_cases}
use Rattle.std.proofs.lemmas.Map.Steps.{length-le_from_distinct_below}
use Rattle.std.specs.List.{IsDistinct, AllByRecursion, list_any}
use Rattle.name_table.specs.inside.Woven.{nowhere, IsSpelled, times, IsAllOf, walk, chain, Ends}

-- a list spelled in no more than so many steps is the walk of so many
pub walk_spelled : (links : List ℕ) (n s : ℕ) (xs : List ℕ) → IsSpelled links s xs → length xs ≤ n → walk links n s ≡ xs
unfolding walk
walk_spelled links zero s [] h le = refl
walk_spelled links zero s (x ∷ xs) h le = absurd (omega arith)
walk_spelled links (suc n) s [] h le = ap (λ b. cond b (s ∷ walk links n (get_or links s 0)) []) (le-ltb s (length links) h)
walk_spelled links (suc n) s (x ∷ xs) h le =
    ap (λ b. cond b (s ∷ walk links n (get_or links s 0)) []) (lt-ltb s (length links) h.1)
    ∙ ap (λ ys. s ∷ ys) (walk_spelled links n (get_or links s 0) xs h.2 (omega arith)) ∙ ap (λ y. y ∷ xs) h.0

-- a walk is no longer than its steps
pub length_walk : (links : List ℕ) (n s : ℕ) → length (walk links n s) ≤ n
unfolding walk
length_walk links zero s = omega arith
length_walk links (suc n) s =
    elim (ltb s (length links)) as (λ b. length (cond b (s ∷ walk links n (get_or links s 0)) []) ≤ suc n) [
      | true ↦ omega (arith, length_walk links n (get_or links s 0))
      | false ↦ omega arith
    ]

-- the first step of a walk
walk_more : (links : List ℕ) (n s : ℕ) → s < length links → 0 < n → walk links n s ≡ s ∷ walk links (n - 1) (get_or links s 0)
unfolding walk
walk_more links zero s lt more = absurd (omega arith)
walk_more links (suc n) s lt more =
    ap (λ b. cond b (s ∷ walk links n (get_or links s 0)) []) (lt-ltb s (length links) lt)
    ∙ ap (λ m. s ∷ walk links m (get_or links s 0)) (let e : n ≡ suc n - 1 = omega arith in e)

-- past the last slot there is nothing
pub chain_over : (links : List ℕ) (s : ℕ) → length links ≤ s → chain links s ≡ []
chain_over links s le = walk_spelled links (length links) s [] le (omega arith)

-- one step along a chain that ends
pub ends_step : (links : List ℕ) (s : ℕ) → Ends links s → s < length links → Ends links (get_or links s 0) × (chain links s ≡ s ∷ chain links (get_or links s 0))
unfolding Ends
ends_step links s ends lt =
    let n = length links in
    let more : walk links n s ≡ s ∷ walk links (n - 1) (get_or links s 0) = walk_more links n s lt (omega arith) in
    let spelled : IsSpelled links s (s ∷ walk links (n - 1) (get_or links s 0)) = subst (IsSpelled links s) more ends in
    let same : walk links n (get_or links s 0) ≡ walk links (n - 1) (get_or links s 0) =
    walk_spelled links n (get_or links s 0) _ spelled.2 (omega (arith, length_walk links (n - 1) (get_or links s 0))) in
    (subst (IsSpelled links (get_or links s 0)) (sym same) spelled.2, more ∙ ap (λ ys. s ∷ ys) (sym same))

-- where it stands is among what a list spells
pub times_append : (i : ℕ) (xs ys : List ℕ) → times i (xs ++ ys) ≡ times i xs + times i ys
times_append i [] ys = omega arith
times_append i (x ∷ xs) ys = omega (arith, times_append i xs ys)

-- a number stands once more before those that it stands among
pub times_here : (i x : ℕ) (xs : List ℕ) → i ≡ x → times i (x ∷ xs) ≡ 1 + times i xs
times_here i x xs e = ap (λ (b : Bool). cond b 1 0 + times i xs) (eq-eqb i x e)

-- and another as often as before
pub times_other : (i x : ℕ) (xs : List ℕ) → (i ≡ x → ⊥) → times i (x ∷ xs) ≡ times i xs
times_other i x xs e = ap (λ (b : Bool). cond b 1 0 + times i xs) (ne_eqb i x e) ∙ (let z : 0 + times i xs ≡ times i xs = omega arith in z)

-- a number that stands nowhere differs from each
apart_all : (x : ℕ) (xs : List ℕ) → times x xs ≡ 0 → AllByRecursion (λ y. eqb x y ≡ false) xs
apart_all x [] h = tt
apart_all x (y ∷ ys) h =
    elim (cases_Bool (eqb x y)) [
      | inl same ↦ absurd (omega (arith, times_here x y ys (eqb-true x y same)))
      | inr other ↦ (other, apart_all x ys (omega arith))
    ]

-- numbers that stand once each are distinct
distinct_once : (xs : List ℕ) → ((i : ℕ) → times i xs ≤ 1) → IsDistinct eqb xs
unfolding IsDistinct
distinct_once [] once = tt
distinct_once (x ∷ xs) once = (
  apart_all x xs (omega (arith, once x, times_here x x xs refl)),
  distinct_once xs (λ i. omega (arith, once i)),
)

-- what a list spells are slots
spelled_below : (links : List ℕ) (s : ℕ) (xs : List ℕ) → IsSpelled links s xs → (q : ℕ) → list_any (eqb q) xs ≡ true → q < length links
spelled_below links s [] h q is = absurd (cc)
spelled_below links s (x ∷ xs) h q is =
    elim (or_cases (eqb q x) (list_any (eqb q) xs) is) [
      | inl here ↦ let e : q ≡ x = eqb-true q x here in let le = h.1 in let same = h.0 in omega arith
      | inr there ↦ spelled_below links (get_or links s 0) xs h.2 q there
    ]

-- and where each stands once, they are no more than there are
spelled_few : (links : List ℕ) (s : ℕ) (xs : List ℕ) → IsSpelled links s xs → ((i : ℕ) → times i xs ≤ 1) → length xs ≤ length links
spelled_few links s xs h once = length-le_from_distinct_below xs (length links) (distinct_once xs once) (spelled_below links s xs h)

-- a number stands once at most among those of a home
at_most_once : (homes : List ℕ) (k : ℕ) (xs : List ℕ) → IsAllOf homes k xs → (i : ℕ) → times i xs ≤ 1
at_most_once homes k xs all i =
    rw (all i) (elim (eqb (get_or homes i nowhere) k) as (λ b. cond b 1 0 ≤ 1) [ true ↦ omega arith | false ↦ omega arith ])

-- a spelled list of all of a home is that chain
pub settle : (links homes : List ℕ) (s k : ℕ) (xs : List ℕ) → IsSpelled links s xs → IsAllOf homes k xs → Ends links s × IsAllOf homes k (chain links s)
unfolding Ends
settle links homes s k xs spelled all =
    let same : chain links s ≡ xs = walk_spelled links (length links) s xs spelled (spelled_few links s xs spelled (at_most_once homes k xs all)) in
    (subst (IsSpelled links s) (sym same) spelled, subst (IsAllOf homes k) (sym same) all)

-- a list is spelled as before where the link of a slot outside changes
pub spelled_outside : (links : List ℕ) (p w s : ℕ) (xs : List ℕ) → times p xs ≡ 0 → IsSpelled links s xs → IsSpelled (set links p w) s xs
spelled_outside links p w s [] none h = omega (arith, length-set links p w)
spelled_outside links p w s (x ∷ xs) none h =
    let apart : s ≡ p → ⊥ = λ e. omega (arith, times_here p x xs (sym e ∙ h.0)) in
    let lt = h.1 in (
      h.0,
      omega (arith, length-set links p w),
      subst (λ t. IsSpelled (set links p w) t xs) (sym (get_or-set_other links p s w 0 apart)) (spelled_outside links p w (get_or links s 0) xs (omega arith) h.2),
    )

-- a slot is taken out by its predecessor's link
pub spelled_without : (links : List ℕ) (p x s : ℕ) (front back : List ℕ) → times p (front ++ p ∷ x ∷ back) ≤ 1 → IsSpelled links s (front ++ p ∷ x ∷ back) → IsSpelled (set links p (get_or links x 0)) s (front ++ p ∷ back)
spelled_without links p x s [] back once h =
    let w = get_or links x 0 in
    let here : s ≡ p = h.0 in
    let lt : s < length links = h.1 in
    let next : get_or links s 0 ≡ x = h.2.0 in
    let rest : IsSpelled links w back = subst (λ t. IsSpelled links (get_or links t 0) back) next h.2.2 in
    let within : p < length links = omega arith in
    let after : get_or (set links p w) s 0 ≡ w = ap (λ t. get_or (set links p w) t 0) here ∙ get_or-set_same links p w 0 within in (
      here,
      omega (arith, length-set links p w),
      subst (λ t. IsSpelled (set links p w) t back) (sym after) (spelled_outside links p w w back (omega (arith, times_here p p (x ∷ back) refl)) rest),
    )
spelled_without links p x s (y ∷ front) back once h =
    let w = get_or links x 0 in
    let lt : s < length links = h.1 in
    let split : times p (front ++ p ∷ x ∷ back) ≡ times p front + times p (p ∷ x ∷ back) = times_append p front (p ∷ x ∷ back) in
    let apart : s ≡ p → ⊥ = λ e. omega (arith, split, times_here p p (x ∷ back) refl, times_here p y (front ++ p ∷ x ∷ back) (sym e ∙ h.0)) in (
      h.0,
      omega (arith, length-set links p w),
      subst (λ t. IsSpelled (set links p w) t (front ++ p ∷ back)) (sym (get_or-set_other links p s w 0 apart)) (spelled_without links p x (get_or links s 0) front back (omega arith) h.2),
    )

-- what stands in a chain makes it begin within the room
pub begins : (links : List ℕ) (s x : ℕ) → times x (chain links s) ≡ 1 → s < length links
begins links s x one = elim (cases_lt s (length links)) [
  | inl lt ↦ lt
  | inr le ↦ absurd (let none : times x (chain links s) ≡ 0 = ap (times x) (chain_over links s le) in omega arith)
]

-- what isn't first in a chain stands in the rest
pub in_rest : (links : List ℕ) (s x : ℕ) → Ends links s → s < length links → (x ≡ s → ⊥) → times x (chain links s) ≡ times x (chain links (get_or links s 0))
in_rest links s x ends lt ne = ap (times x) (ends_step links s ends lt).1 ∙ times_other x s (chain links (get_or links s 0)) ne
