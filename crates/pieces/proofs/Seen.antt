-- The nodes of pieces, seen through something.
use Rattle.std.proofs.Common.{◌≡◌, ℕ, zero, suc, List, [], ◌∷◌, length, map, take, drop, refl, ap, sym, ◌∙◌, subst}
use Rattle.std.proofs.lemmas.List.{length-map}
use Rattle.desk.specs.Shown.{Shown, shown}
use Rattle.desk.specs.declared.snapshot.Row.{Row}
use Rattle.pieces.specs.Pieces.{begins, places_of, nodes_of}

map_take : {A B : Type 0} (f : A → B) (n : ℕ) (xs : List A) → map f (take n xs) ≡ take n (map f xs)
map_take f zero xs = refl
map_take f (suc n) [] = refl
map_take f (suc n) (x ∷ xs) = ap (λ ys. f x ∷ ys) (map_take f n xs)

map_drop : {A B : Type 0} (f : A → B) (n : ℕ) (xs : List A) → map f (drop n xs) ≡ drop n (map f xs)
map_drop f zero xs = refl
map_drop f (suc n) [] = refl
map_drop f (suc n) (x ∷ xs) = map_drop f n xs

-- the nodes of some pieces, seen through something
pub nodes_of_map : {A B : Type 0} (f : A → B) (xs : List A) (pieces first many : ℕ) → map f (nodes_of xs pieces first many) ≡ nodes_of (map f xs) pieces first many
nodes_of_map f xs pieces first many =
    subst (λ n. map f (nodes_of xs pieces first many) ≡ take (places_of n pieces first many) (drop (begins n pieces first) (map f xs))) (sym (length-map xs f))
    (map_take f (places_of (length xs) pieces first many) (drop (begins (length xs) pieces first) xs) ∙ ap (take (places_of (length xs) pieces first many)) (map_drop f (begins (length xs) pieces first) xs))

-- as many rows as are shown
pub as_many : (rows : List Row) (nodes : List Shown) → map shown rows ≡ nodes → length rows ≡ length nodes
as_many rows nodes is = sym (length-map rows shown) ∙ ap length is
