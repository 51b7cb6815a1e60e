-- What a number of N bits stands for (WebAssembly Core 1.0, 4.3.1 and 4.3.2). A value of type i32
-- is a natural number below 2 ^ 32, and one of type i64 a natural number below 2 ^ 64. N is the
-- type's width in bits.
use Rattle.std.specs.Prelude.{ℕ, zero, suc, ◌+◌, ◌-◌, ◌*◌, ◌/◌, ◌%◌, ◌^◌, List, [], ◌∷◌, length, ℤ, pos, negsuc, ◌-ℤ◌, if◌then◌else◌, nat_lt}

-- "signed_N": the number itself in the lower half of the range, and 2 ^ N less in the upper half
unfoldable pub signed : ℕ → ℕ → ℤ
signed N i = if nat_lt i (2 ^ (N - 1)) then pos i else (pos i -ℤ pos (2 ^ N))

-- the inverse of `signed`: 2 ^ N is added to a negative number (`negsuc n` is -(n + 1))
unfoldable pub from_signed : ℕ → ℤ → ℕ
from_signed N (pos n) = n
from_signed N (negsuc n) = 2 ^ N - (n + 1)

-- "ibits_N": the N binary digits of i, the highest first
unfoldable pub ibits : ℕ → ℕ → List ℕ
ibits zero i = []
ibits (suc n) i = i / 2 ^ n % 2 ∷ ibits n i

-- the inverse of `ibits`: the number that binary digits spell, the highest first
unfoldable pub from_ibits : List ℕ → ℕ
from_ibits [] = 0
from_ibits (d ∷ ds) = d * 2 ^ length ds + from_ibits ds
