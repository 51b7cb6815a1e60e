-- Lists that are written from a place on.
use Rattle.std.proofs.Common.{◌≡◌, ℕ, zero, suc, ◌+◌, ◌<◌, ◌≤◌, List, [], ◌∷◌, ◌++◌, Option, Some, length, map, take, drop, get_or, set, sym, ap, ◌∙◌, arith, length-append, length-drop, append_assoc}
use Rattle.std.specs.List.{AllByRecursion}
use Rattle.std.proofs.lemmas.List.{take_more, map-append, length-map, length-take-le}
use Rattle.std.proofs.Math.Seq.{set-append_seam, drop-cons}
use Rattle.wstore.specs.Segments.{overwritten}

-- as many stand before what is left
front_length : {A : Type 0} (xs : List A) (at : ℕ) (new : List A) → at + length new ≤ length xs → length (take at xs ++ new) ≡ at + length new
front_length xs at new within = length-append (take at xs) new ∙ ap (λ n. n + length new) (length-take-le at xs (omega arith))

-- one more is written behind those that were
pub one_more_written : {A : Type 0} (xs : List A) (at : ℕ) (new : List A) (x : A) → at + length new < length xs
    → set (overwritten xs at new) (at + length new) x ≡ overwritten xs at (new ++ x ∷ [])
one_more_written xs at new x within =
    let k : ℕ = at + length new in
    let front = take at xs ++ new in
    let seam : length front ≡ k = front_length xs at new (omega arith) in
    let more : suc k ≡ at + length (new ++ x ∷ []) = omega (arith, length-append new (x ∷ [])) in
    ap (λ left. set (front ++ left) k x) (drop-cons xs k x within)
    ∙ ap (λ n. set (front ++ (get_or xs k x ∷ drop (suc k) xs)) n x) (sym seam)
    ∙ set-append_seam front (get_or xs k x) (drop (suc k) xs) x
    ∙ sym (append_assoc front (x ∷ []) (drop (suc k) xs))
    ∙ ap (λ begin. begin ++ drop (suc k) xs) (append_assoc (take at xs) new (x ∷ []))
    ∙ ap (λ n. (take at xs ++ (new ++ x ∷ [])) ++ drop n xs) more

-- there are as many as before
pub length-overwritten : {A : Type 0} (xs : List A) (at : ℕ) (new : List A) → at + length new ≤ length xs → length (overwritten xs at new) ≡ length xs
length-overwritten xs at new within =
    let front = take at xs ++ new in
    let seam : length front ≡ at + length new = front_length xs at new within in
    omega (arith, length-append front (drop (at + length new) xs), length-drop (at + length new) xs)

all_append : {A : Type 0} (P : A → Type 0) (xs ys : List A) → AllByRecursion P xs → AllByRecursion P ys → AllByRecursion P (xs ++ ys)
all_append P [] ys first second = second
all_append P (x ∷ xs) ys first second = (first.0, all_append P xs ys first.1 second)

all_take : {A : Type 0} (P : A → Type 0) (n : ℕ) (xs : List A) → AllByRecursion P xs → AllByRecursion P (take n xs)
all_take P zero xs all = tt
all_take P (suc n) [] all = tt
all_take P (suc n) (x ∷ xs) all = (all.0, all_take P n xs all.1)

all_drop : {A : Type 0} (P : A → Type 0) (n : ℕ) (xs : List A) → AllByRecursion P xs → AllByRecursion P (drop n xs)
all_drop P zero xs all = all
all_drop P (suc n) [] all = tt
all_drop P (suc n) (x ∷ xs) all = all_drop P n xs all.1

-- what holds of those that are there and of those that are written holds of all
pub all_overwritten : {A : Type 0} (P : A → Type 0) (xs : List A) (at : ℕ) (new : List A) → AllByRecursion P xs → AllByRecursion P new → AllByRecursion P (overwritten xs at new)
all_overwritten P xs at new all all_new =
    all_append P (take at xs ++ new) (drop (at + length new) xs) (all_append P (take at xs) new (all_take P at xs all) all_new) (all_drop P (at + length new) xs all)

-- one more function is written
pub function_written : (old now new : List (Option ℕ)) (at : ℕ) (functions : List ℕ) (i : ℕ) → i < length functions → at + length functions ≤ length old
    → now ≡ overwritten old at (map (λ (f : ℕ). Some f) (take i functions)) → new ≡ set now (at + i) (Some (get_or functions i 0))
    → new ≡ overwritten old at (map (λ (f : ℕ). Some f) (take (i + 1) functions))
function_written old now new at functions i more within so_far is =
    let f : ℕ = get_or functions i 0 in
    let put : List (Option ℕ) = map (λ (g : ℕ). Some g) (take i functions) in
    let count : length put ≡ i = length-map (take i functions) (λ (g : ℕ). Some g) ∙ length-take-le i functions (omega arith) in
    let grown : map (λ (g : ℕ). Some g) (take (i + 1) functions) ≡ put ++ Some f ∷ [] =
    ap (map (λ (g : ℕ). Some g)) (take_more functions i 0 more) ∙ map-append (λ (g : ℕ). Some g) (take i functions) (f ∷ []) in
    is
    ∙ ap (λ ps. set ps (at + i) (Some f)) so_far
    ∙ ap (λ n. set (overwritten old at put) (at + n) (Some f)) (sym count)
    ∙ one_more_written old at put (Some f) (omega arith)
    ∙ ap (overwritten old at) (sym grown)
