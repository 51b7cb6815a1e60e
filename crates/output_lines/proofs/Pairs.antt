-- Two lists, pair by pair.
use Rattle.std.proofs.Common.{◌≡◌, ℕ, zero, suc, ◌<◌, min, List, [], ◌∷◌, ◌++◌, length, map, take, get_or, zip, sym, ap, arith}

-- one pair more
pub zip_more : {A B : Type 0} (xs : List A) (ys : List B) (i : ℕ) (x : A) (y : B) → i < length xs → i < length ys
    → x ≡ get_or xs i x → y ≡ get_or ys i y → take (suc i) (zip xs ys) ≡ take i (zip xs ys) ++ (x, y) ∷ []
zip_more [] ys i x y here there at also = absurd (omega (arith, here))
zip_more (u ∷ xs) [] i x y here there at also = absurd (omega (arith, there))
zip_more (u ∷ xs) (v ∷ ys) zero x y here there at also = λ k. ((sym at k), (sym also k)) ∷ []
zip_more (u ∷ xs) (v ∷ ys) (suc i) x y here there at also =
    ap (λ t. (u, v) ∷ t) (zip_more xs ys i x y (omega (arith, here)) (omega (arith, there)) at also)

-- there are as many pairs as there are of the shorter list
pub zip_long : {A B : Type 0} (xs : List A) (ys : List B) → length (zip xs ys) ≡ min (length xs) (length ys)
zip_long [] ys = omega arith
zip_long (u ∷ xs) [] = omega arith
zip_long (u ∷ xs) (v ∷ ys) = omega (arith, zip_long xs ys)

-- the image of what stands at a place stands there among the images
pub image_at : {A B : Type 0} (f : A → B) (xs : List A) (i : ℕ) (x : A) → i < length xs → x ≡ get_or xs i x → f x ≡ get_or (map f xs) i (f x)
image_at f [] i x below at = absurd (omega (arith, below))
image_at f (u ∷ xs) zero x below at = ap f at
image_at f (u ∷ xs) (suc i) x below at = image_at f xs i x (omega (arith, below)) at
