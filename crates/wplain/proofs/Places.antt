-- What is left of a list.
use Rattle.std.proofs.Common.{◌≡◌, ℕ, suc, zero, ◌-◌, List, [], ◌∷◌, length, drop, refl, ap, arith}

none_left : {A : Type 0} (n : ℕ) (xs : List A) → length xs ≡ 0 → drop n xs ≡ xs
none_left zero xs e = refl
none_left (suc n) [] e = refl
none_left (suc n) (x ∷ xs) e = absurd (omega (arith, e))

-- as many less the first
pub drop_later : {A : Type 0} (n : ℕ) (xs : List A) → (n ≡ 0 → ⊥) → drop (n - 1) (drop 1 xs) ≡ drop n xs
drop_later zero xs some = absurd (some refl)
drop_later (suc n) [] some = none_left (suc n - 1) [] refl
drop_later (suc n) (x ∷ xs) some =
    let less : suc n - 1 ≡ n = omega arith in
    ap (λ k. drop k xs) less
