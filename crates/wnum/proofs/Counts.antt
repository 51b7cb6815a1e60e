-- The counts over digits are std's over the number.
use Rattle.std.proofs.Common.{◌≡◌, ℕ, zero, suc, ◌+◌, ◌-◌, ◌*◌, ◌/◌, ◌%◌, ◌^◌, ◌<◌, ◌≤◌, ◌⊎◌, inl, inr, cond, ◌==◌, List, [], ◌∷◌, count_by, refl, ap, ◌∙◌, subst, arith, pow-suc}
use Rattle.std.proofs.lemmas.Nat.{shr_high}
use Rattle.std.proofs.lemmas.List.{reverse-append}
use Rattle.std.proofs.lemmas.List.Sums.{sum_by-append}
use Rattle.std.specs.List.{prefix_len, suffix_len}
use Rattle.std.proofs.lemmas.Bool.{cases_lt}
use Rattle.std.proofs.lemmas.Bool.Decides.{nat_tests}
use lib.Count.{ones, ones_in, ones_step, count_leading_zeros, count_trailing_zeros, under, leading_unique}
use Rattle.wnum.specs.Representation.{ibits}
use Rattle.wnum.specs.Integer.{iclz, ictz, ipopcnt}
use Rattle.wnum.proofs.Digits.{ibits-snoc, half_lt}

-- the digit in place n of a number that is shorter, and of one that has just that place more
pub top_zero : (n a : ℕ) → a < 2 ^ n → a / 2 ^ n ≡ 0
top_zero n a h = subst (λ (x : ℕ). x / 2 ^ n ≡ 0) (omega arith) (shr_high 0 n a h)

pub top_one : (n a : ℕ) → 2 ^ n ≤ a → a < 2 ^ suc n → a / 2 ^ n ≡ 1
top_one n a l h =
    let rest : 1 * 2 ^ n + (a - 2 ^ n) ≡ a = omega arith in
    subst (λ (x : ℕ). x / 2 ^ n ≡ 1) rest (shr_high 1 n (a - 2 ^ n) (omega (arith, pow-suc 2 n)))

-- the length of a in digits and the zeros before them make N
zeros_before : (N a : ℕ) → a < 2 ^ N → (m : ℕ) × (prefix_len (λ d. d == 0) (ibits N a) + m ≡ N) × (a < 2 ^ m) × (2 ^ m ≤ 2 * a + 1)
unfolding ibits
zeros_before zero a h = (0, refl, h, omega arith)
zeros_before (suc n) a h = go (λ l. zeros_before n a l) (cases_lt a (2 ^ n))
  where
    go : (a < 2 ^ n → (m : ℕ) × (prefix_len (λ d. d == 0) (ibits n a) + m ≡ n) × (a < 2 ^ m) × (2 ^ m ≤ 2 * a + 1)) → (a < 2 ^ n) ⊎ (2 ^ n ≤ a) → (m : ℕ) × (prefix_len (λ d. d == 0) (ibits (suc n) a) + m ≡ suc n) × (a < 2 ^ m) × (2 ^ m ≤ 2 * a + 1)
    go shorter (inl l) =
        let ih = shorter l in
        let digit : a / 2 ^ n % 2 ≡ 0 = ap (λ (x : ℕ). x % 2) (top_zero n a l) in
        (ih.0, rw digit (omega (arith, ih.1)), ih.2, ih.3)
    go shorter (inr l) =
        let digit : a / 2 ^ n % 2 ≡ 1 = ap (λ (x : ℕ). x % 2) (top_one n a l h) in
        (suc n, rw digit (omega arith), h, omega (arith, pow-suc 2 n))

-- the count of leading zeros, as std's method gives it
pub iclz_is : (N a : ℕ) → a < 2 ^ N → iclz N a ≡ count_leading_zeros N a
unfolding iclz
iclz_is N a h = let z = zeros_before N a h in leading_unique N a (prefix_len (λ d. d == 0) (ibits N a)) z.0 z.1 z.2 z.3

-- the digit d stands behind the others
zeros_behind : (d t : ℕ) → cond (d == 0) (1 + t) 0 ≡ under d t
zeros_behind zero t = omega arith
zeros_behind (suc d) t = grind (arith, nat_tests)

-- the zeros at the end are counted from the last digit on
zeros_after : (N a : ℕ) → suffix_len (λ d. d == 0) (ibits N a) ≡ count_trailing_zeros N a
unfolding ibits count_trailing_zeros
zeros_after zero a = refl
zeros_after (suc n) a =
    ap (λ (x : List ℕ). suffix_len (λ d. d == 0) x) (ibits-snoc n a)
    ∙ ap (λ (x : List ℕ). prefix_len (λ d. d == 0) x) (reverse-append (ibits n (a / 2)) (a % 2 ∷ []))
    ∙ ap (λ (x : ℕ). cond (a % 2 == 0) (1 + x) 0) (zeros_after n (a / 2))
    ∙ zeros_behind (a % 2) (count_trailing_zeros n (a / 2))

-- the count of trailing zeros
pub ictz_is : (N a : ℕ) → ictz N a ≡ count_trailing_zeros N a
unfolding ictz
ictz_is N a = zeros_after N a

-- a digit counts as what it is
counted : (d : ℕ) → d < 2 → cond (d == 1) 1 0 + 0 ≡ d
counted zero h = refl
counted (suc zero) h = refl
counted (suc (suc d)) h = absurd (omega arith)

-- the digits that are 1, counted from the last on
ones_among : (N a : ℕ) → a < 2 ^ N → count_by (λ d. d == 1) (ibits N a) ≡ ones a
unfolding ibits ones ones_in
ones_among zero a h = let a-is : a ≡ 0 = omega arith in rw a-is refl
ones_among (suc n) a h =
    ap (λ (x : List ℕ). count_by (λ d. d == 1) x) (ibits-snoc n a)
    ∙ sum_by-append (λ d. cond (d == 1) 1 0) (ibits n (a / 2)) (a % 2 ∷ [])
    ∙ omega (arith, counted (a % 2) (omega arith), ones_among n (a / 2) (half_lt n a h), ones_step a)

-- the count of digits that are 1
pub ipopcnt_is : (N a : ℕ) → a < 2 ^ N → ipopcnt N a ≡ ones a
unfolding ipopcnt
ipopcnt_is N a h = ones_among N a h
