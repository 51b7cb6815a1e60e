-- What a product with a factor tells of hundredths.
use Rattle.std.proofs.Common.{ℕ, ◌*◌, ◌/◌, ◌^◌, ◌<◌, ◌≤◌, arith}
use Rattle.std.proofs.lemmas.Nat.{le-div, mul-le}
use native.Mathlib.Nat as nat
use Rattle.fit.specs.inside.Factor.{IsFactor}

-- it isn't too low
pub guess_enough : (part whole factor : ℕ) → 1 ≤ whole → whole < 2 ^ 56 → IsFactor whole factor → part * 100 / whole ≤ part * factor / 2 ^ 57
guess_enough part whole factor some small is = le-div (part * 100 / whole) (part * factor) (2 ^ 57) (omega arith)
    (nat.le_of_mul-le-mul_right {k = whole} (by (part * 100 / whole) (nat.div-mul-le_self (part * 100) whole)) some)
  where
    by : (q : ℕ) → q * whole ≤ part * 100 → q * 2 ^ 57 * whole ≤ part * factor * whole
    by q least = omega (arith, least, mul-le part (100 * 2 ^ 57) part (factor * whole) (omega arith) (is some small).0)
