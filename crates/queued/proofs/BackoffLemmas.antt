-- How far the doublings of a backoff count.
use Rattle.std.proofs.Common.{◌≡◌, ℕ, ◌<◌, ◌≤◌, ◌*◌, ◌^◌, ◌%◌, min, lit<, ⊎_elim, arith, sym, ap, ◌∙◌}
use Rattle.std.proofs.Math.Nat.{pow-le-pow_right, min-eq_left, min-eq_right, min_comm}
use Rattle.std.proofs.lemmas.Bool.{cases_lt}

-- from the fourth doubling on, the longest backoff is reached
reached : (n : ℕ) → 4 ≤ n → 10000 ≤ 1000 * 2 ^ n
reached n four = let more : 16 ≤ 2 ^ n = pow-le-pow_right (lit< tt) four in omega arith

-- so further doublings change nothing
pub doublings_count : (n : ℕ) → min (1000 * 2 ^ min n 4) 10000 ≡ min 10000 (1000 * 2 ^ n)
doublings_count n =
    ⊎_elim
    (λ (few : n < 4). let is : n ≤ 4 = omega arith in ap (λ m. min (1000 * 2 ^ m) 10000) (min-eq_left is) ∙ min_comm _ _)
    (λ (many : 4 ≤ n). ap (λ m. min (1000 * 2 ^ m) 10000) (min-eq_right many) ∙ sym (min-eq_left (reached n many)))
    (cases_lt n 4)

-- few doublings stay within 64 bits
small : (n : ℕ) → n ≤ 4 → (1000 * 2 ^ n) % 18446744073709551616 ≡ 1000 * 2 ^ n
small n few = let less : 2 ^ n ≤ 16 = pow-le-pow_right (lit< tt) few in omega arith

-- the backoff, computed by a shift of at most four
pub shifted_backoff : (n doublings result : ℕ) → doublings ≡ min n 4 → result ≡ min ((1000 * 2 ^ doublings) % 18446744073709551616) 10000 → result ≡ min 10000 (1000 * 2 ^ n)
shifted_backoff n doublings result few is =
    let bound : doublings ≤ 4 = omega arith in
    is ∙ ap (λ m. min m 10000) (small doublings bound) ∙ ap (λ m. min (1000 * 2 ^ m) 10000) few ∙ doublings_count n
