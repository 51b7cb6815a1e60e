-- The number that decimal digits spell, digit by digit.
use Rattle.std.proofs.Common.{◌≡◌, ℕ, ◌+◌, ◌-◌, ◌*◌, ◌^◌, ◌<◌, ◌≤◌, Bool, true, false, cond, List, [], ◌∷◌, ◌++◌, length, get_or, take, refl, arith, length-append, add-one, one-add}
use Rattle.std.specs.List.{list_all, prefix_len}
use Rattle.std.proofs.Math.Nat.{pow-suc, pow-le-pow_right}
use Rattle.std.proofs.lemmas.List.Sums.{AllPass-from_list_all}
use Rattle.std.proofs.Math.Seq.{take-suc}
use Rattle.quant.specs.Amount.{is_digit, number}

-- one more digit at the end: ten times the number, and the digit
pub number_push : (ds : List ℕ) (c : ℕ) → number (ds ++ (c ∷ [])) ≡ number ds * 10 + (c - 48)
number_push [] c = omega arith
number_push (d ∷ ds) c =
    let longer : 10 ^ length (ds ++ (c ∷ [])) ≡ 10 ^ length ds * 10 = rw (length-append, add-one, pow-suc) refl in
    rw (longer, number_push ds c) (omega arith)

-- one more digit of a text
pub number_more : (ds : List ℕ) (i : ℕ) → i < length ds → number (take (i + 1) ds) ≡ number (take i ds) * 10 + (get_or ds i 0 - 48)
number_more ds i h = rw (add-one, take-suc ds i 0) (number_push (take i ds) _)

-- each byte of digits is one from `0` to `9`
pub digit_at : (ds : List ℕ) (i : ℕ) → list_all is_digit ds ≡ true → i < length ds → (48 ≤ get_or ds i 0) × (get_or ds i 0 ≤ 57)
digit_at ds i all h =
    let e : is_digit (get_or ds i 0) ≡ true = AllPass-from_list_all is_digit ds all i 0 h in grind (arith, e)

-- i digits spell a number below 10 to the i, and one more digit ten times that
pub digit_more : (v d i : ℕ) → v < 10 ^ i → d ≤ 9 → v * 10 + d < 10 ^ (i + 1)
digit_more v d i h k = rw (add-one, pow-suc) (omega arith)

-- fewer than 15 digits spell a number below 10 to the 14
pub fewer_than_fifteen : (v i n : ℕ) → v < 10 ^ i → i < n → n ≤ 15 → v < 10 ^ 14
fewer_than_fifteen v i n h k few =
    let most : 10 ^ i ≤ 10 ^ 14 = pow-le-pow_right {n = 10} (omega arith) (let j : i ≤ 14 = omega arith in j) in omega arith

-- the front of a list that passes a test, up to the first element that fails, passes it
pub front_passes : (p : ℕ → Bool) (xs : List ℕ) → list_all p (take (prefix_len p xs) xs) ≡ true
front_passes p [] = refl
front_passes p (x ∷ xs) =
    (elim (p x) as (λ b. p x ≡ b → list_all p (take (cond b (1 + prefix_len p xs) 0) (x ∷ xs)) ≡ true) [
      | true ↦ λ yes. rw (one-add, yes) (front_passes p xs)
      | false ↦ λ no. refl
    ]) refl

-- up to 15 digits spell a number below 10 to the 15
pub up_to_fifteen : (v i : ℕ) → v < 10 ^ i → i ≤ 15 → v < 10 ^ 15
up_to_fifteen v i h few = let most : 10 ^ i ≤ 10 ^ 15 = pow-le-pow_right {n = 10} (omega arith) few in omega arith
