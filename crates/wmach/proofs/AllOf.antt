-- What holds of each element of a list holds of each element of lists made of it.
use Rattle.std.proofs.Common.{ℕ, suc, zero, List, [], ◌∷◌, ◌++◌, take, drop, reverse, sym, subst}
use Rattle.std.specs.Prelude.{slice_set}
use Rattle.std.specs.List.{AllByRecursion}
use mathlib.Core.List.{reverse-cons}

module _ {A : Type 0} (P : A → Type 0) where
  pub all-append : (xs ys : List A) → AllByRecursion P xs → AllByRecursion P ys → AllByRecursion P (xs ++ ys)
  all-append [] ys f g = g
  all-append (x ∷ xs) ys f g = (f.0, all-append xs ys f.1 g)

  pub all-take : (n : ℕ) (xs : List A) → AllByRecursion P xs → AllByRecursion P (take n xs)
  all-take zero xs f = tt
  all-take (suc n) [] f = tt
  all-take (suc n) (x ∷ xs) f = (f.0, all-take n xs f.1)

  pub all-drop : (n : ℕ) (xs : List A) → AllByRecursion P xs → AllByRecursion P (drop n xs)
  all-drop zero xs f = f
  all-drop (suc n) [] f = tt
  all-drop (suc n) (x ∷ xs) f = all-drop n xs f.1

  pub all-set : (xs : List A) (k : ℕ) (x : A) → P x → AllByRecursion P xs → AllByRecursion P (slice_set xs k x)
  all-set [] k x p f = f
  all-set (y ∷ ys) zero x p f = (p, f.1)
  all-set (y ∷ ys) (suc k) x p f = (f.0, all-set ys k x p f.1)

  pub all-reverse : (xs : List A) → AllByRecursion P xs → AllByRecursion P (reverse xs)
  all-reverse [] f = tt
  all-reverse (x ∷ xs) f = subst (AllByRecursion P) (sym (reverse-cons x xs)) (all-append (reverse xs) (x ∷ []) (all-reverse xs f.1) (f.0, tt))
