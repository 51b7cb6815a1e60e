-- What is wrong with bytes that spell no number, and the faults' numbers and names.
use Rattle.std.specs.Prelude.{◌≡◌, ℕ, suc, ◌+◌, ◌-◌, ◌*◌, ◌/◌, ◌<◌, ◌≤◌, List, ◌∷◌, ◌++◌, ℤ, All, length, take, codes}
use Rattle.leb.specs.Number.{Sign, IsLast}
use Rattle.leb.specs.declared.LebFault.{LebFault}
use Rattle.leb.specs.declared.LebFault.TheVariants.{Truncated, TooLong, BadLastByte}

-- the number that messages tell
abbrev pub number_of : LebFault → ℕ
number_of Truncated = 1
number_of TooLong = 2
number_of BadLastByte = 3

-- the name that messages tell
abbrev pub name_of : LebFault → List ℕ
name_of Truncated = codes "Truncated"
name_of TooLong = codes "TooLong"
name_of BadLastByte = codes "BadLastByte"

-- how many bytes a number of so many bits has at most
abbrev pub longest : ℕ → ℕ
longest bits = (bits + 6) / 7

-- The bytes end inside the number: each says that another follows, and they are too few.
abbrev pub IsTruncated : ℕ → List ℕ → Type 0
IsTruncated bits bytes = (length bytes < longest bits) × All (λ b. 128 ≤ b) bytes

-- As many bytes as the number may have say that another follows.
abbrev pub IsTooLong : ℕ → List ℕ → Type 0
IsTooLong bits bytes = (longest bits ≤ length bytes) × All (λ b. 128 ≤ b) (take (longest bits) bytes)

-- The number ends at the last byte that it may have, whose unused bits aren't zeros, or copies of
-- the sign.
abbrev pub HasBadLastByte : Sign → ℕ → List ℕ → Type 0
HasBadLastByte s bits bytes =
    (front : List ℕ) × (b : ℕ) × (rest : List ℕ) × (bytes ≡ front ++ b ∷ rest) × (suc (length front) ≡ longest bits)
    × All (λ c. 128 ≤ c) front × (b < 128) × ((v : ℤ) → IsLast s (bits - 7 * length front) b v → ⊥)
