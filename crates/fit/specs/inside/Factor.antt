-- What stands beside an amount, so that hundredths of it needn't be divided.
use Rattle.std.specs.Prelude.{ℕ, ◌+◌, ◌*◌, ◌^◌, ◌<◌, ◌≤◌}

-- the hundredths of one where the whole is some and below 2^56: in units of 2^-57, rounded up, or
-- one more where they are a whole number of these
abbrev pub IsFactor : (whole factor : ℕ) → Type 0
IsFactor whole factor =
    1 ≤ whole → whole < 2 ^ 56 → (100 * 2 ^ 57 ≤ factor * whole) × (factor * whole ≤ 100 * 2 ^ 57 + whole)
