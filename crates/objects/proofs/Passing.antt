-- What is left of a list of which each element passes a test.
use Rattle.std.proofs.Common.{◌≡◌, ℕ, zero, suc, Bool, true, List, [], ◌∷◌, drop, refl}
use Rattle.std.proofs.lemmas.Bool.{and_parts}
use Rattle.std.specs.List.{list_all}

pub back_passes : (p : ℕ → Bool) (n : ℕ) (xs : List ℕ) → list_all p xs ≡ true → list_all p (drop n xs) ≡ true
back_passes p zero xs h = h
back_passes p (suc n) [] h = refl
back_passes p (suc n) (x ∷ xs) h = back_passes p n xs (and_parts (p x) (list_all p xs) h).1
