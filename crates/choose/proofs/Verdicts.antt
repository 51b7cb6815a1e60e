-- Verdicts on nodes, put together in order.
use Rattle.std.proofs.Common.{◌≡◌, ℕ, ◌+◌, ◌<◌, List, [], ◌∷◌, ◌++◌, length, map, take, set, get_or, refl, subst, arith}
use Rattle.std.specs.List.{AllZip}
use Rattle.std.proofs.lemmas.List.{map_more, take_more_set}

-- what holds of the elements of two lists pair by pair, and of two more, holds of each two put
-- together
pub all_zip_append : {A B : Type 0} (R : A → B → Type 0) (xs : List A) (vs : List B) (ys : List A) (ws : List B) → AllZip R xs vs → AllZip R ys ws → AllZip R (xs ++ ys) (vs ++ ws)
all_zip_append R [] [] ys ws first second = second
all_zip_append R [] (v ∷ vs) ys ws first second = absurd first
all_zip_append R (x ∷ xs) [] ys ws first second = absurd first
all_zip_append R (x ∷ xs) (v ∷ vs) ys ws first second = (first.0, all_zip_append R xs vs ys ws first.1 second)

-- one pair more is written, where the first lists' elements are read from others
pub all_zip_set : {X A B : Type 0} (R : A → B → Type 0) (f : X → A) (xs : List X) (vs : List B) (i : ℕ) (x : X) (v : B) → i < length xs → i < length vs → x ≡ get_or xs i x →
    AllZip R (map f (take i xs)) (take i vs) → R (f x) v → AllZip R (map f (take (i + 1) xs)) (take (i + 1) (set vs i v))
all_zip_set R f xs vs i x v below room at before now =
    rw (map_more f xs i x below, take_more_set vs i v room)
    (all_zip_append R (map f (take i xs)) (take i vs) (f (get_or xs i x) ∷ []) (v ∷ []) before (subst (λ y. R (f y) v) at now, tt))

-- there are as many of the one as of the other
pub all_zip_length : {A B : Type 0} (R : A → B → Type 0) (xs : List A) (vs : List B) → AllZip R xs vs → length vs ≡ length xs
all_zip_length R [] [] zip = refl
all_zip_length R [] (v ∷ vs) zip = absurd zip
all_zip_length R (x ∷ xs) [] zip = absurd zip
all_zip_length R (x ∷ xs) (v ∷ vs) zip =
    let rest : length vs ≡ length xs = all_zip_length R xs vs zip.1 in
    omega (arith, rest)
