-- How many comparisons a slot's way up or down takes: the places on it double.
use Rattle.std.proofs.Common.{◌≡◌, ℕ, suc, ◌+◌, ◌-◌, ◌*◌, ◌^◌, ◌<◌, ◌≤◌, ⊎_elim, arith, ap, ◌∙◌, lit<}
use Rattle.std.proofs.Math.Nat.{pow-le-pow_right, pow-suc, mul-le-mul_left, mul-le-mul_right, mul_assoc, mul_comm}
use Rattle.std.proofs.lemmas.Bool.{cases_lt}

-- one comparison more doubles the power
doubled : (c old : ℕ) → old ≤ c → 2 ^ (c + 1 - old) ≡ 2 ^ (c - old) * 2
doubled c old more = let next : c + 1 - old ≡ suc (c - old) = omega arith in ap (λ (n : ℕ). 2 ^ n) next ∙ pow-suc 2 (c - old)

-- a place at least twice as high as another, as a multiple
pub more_up : (c old place parent from : ℕ) → old ≤ c → 2 ^ (c - old) * (place + 1) ≤ from + 1 → 2 * (parent + 1) ≤ place + 1 → 2 ^ (c + 1 - old) * (parent + 1) ≤ from + 1
more_up c old place parent from more so_far twice =
    let same : 2 ^ (c + 1 - old) * (parent + 1) ≡ 2 ^ (c - old) * (2 * (parent + 1)) = ap (λ (n : ℕ). n * (parent + 1)) (doubled c old more) ∙ mul_assoc (2 ^ (c - old)) 2 (parent + 1) in
    let less : 2 ^ (c - old) * (2 * (parent + 1)) ≤ 2 ^ (c - old) * (place + 1) = mul-le-mul_left (2 ^ (c - old)) twice in
    omega (arith, same, less, so_far)

-- the comparison after which a slot stays
pub stays_up : (c old place from : ℕ) → old ≤ c → 2 ^ (c - old) * (place + 1) ≤ from + 1 → 0 < place → 2 ^ (c + 1 - old) ≤ from + 1
stays_up c old place from more so_far low =
    let twice : 2 ≤ place + 1 = omega arith in
    let less : 2 ^ (c - old) * 2 ≤ 2 ^ (c - old) * (place + 1) = mul-le-mul_left (2 ^ (c - old)) twice in
    omega (arith, doubled c old more, less, so_far)

-- at most one comparison more on the way down
pub more_down : (c new old place child from : ℕ) → old ≤ c → new ≤ c + 1 → 2 ^ (c - old) * (from + 1) ≤ place + 1 → place * 2 + 1 ≤ child → 2 ^ (new - old) * (from + 1) ≤ child + 1
more_down c new old place child from more few so_far low =
    let fewer : new - old ≤ c + 1 - old = omega arith in
    let power : 2 ^ (new - old) ≤ 2 ^ (c + 1 - old) = pow-le-pow_right (lit< tt) fewer in
    let product : 2 ^ (new - old) * (from + 1) ≤ 2 ^ (c + 1 - old) * (from + 1) = mul-le-mul_right (from + 1) power in
    let same : 2 ^ (c + 1 - old) * (from + 1) ≡ 2 * (2 ^ (c - old) * (from + 1)) = ap (λ (n : ℕ). n * (from + 1)) (doubled c old more ∙ mul_comm (2 ^ (c - old)) 2) ∙ mul_assoc 2 (2 ^ (c - old)) (from + 1) in
    omega (arith, product, same, so_far, low)

-- a power of so many comparisons is below 2^14 only where they are 13 at most
pub at_most_13 : (c old n : ℕ) → 2 ^ (c - old) ≤ n → n ≤ 10000 → c ≤ old + 13
at_most_13 c old n power few =
    ⊎_elim
    (λ (low : c < old + 14). let is : c ≤ old + 13 = omega arith in is)
    (λ (high : old + 14 ≤ c).
    let many : 14 ≤ c - old = omega arith in
    let great : 2 ^ 14 ≤ 2 ^ (c - old) = pow-le-pow_right (lit< tt) many in
    let far : 16384 ≤ 2 ^ (c - old) = great in
    absurd (omega (arith, far, power, few)))
    (cases_lt c (old + 14))

-- a factor makes a power no less
pub power_alone : (k m n : ℕ) → 2 ^ k * (m + 1) ≤ n → 2 ^ k ≤ n
power_alone k m n product =
    let one : 1 ≤ m + 1 = omega arith in
    let less : 2 ^ k * 1 ≤ 2 ^ k * (m + 1) = mul-le-mul_left (2 ^ k) one in
    omega (arith, less, product)
