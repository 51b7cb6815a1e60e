-- The integer operations (WebAssembly Core 1.0, 4.3.2), under the standard's names, each over the
-- width N. The operands are natural numbers below 2 ^ N, and so are the results, but for the tests
-- and relations, which answer 1 or 0.
use Rattle.std.specs.Prelude.{ℕ, ◌+◌, ◌-◌, ◌*◌, ◌/◌, ◌%◌, ◌^◌, min, max, not, List, [], ◌∷◌, ◌++◌, take, drop, replicate, ℤ, pos, int_div, int_rem, int_lt, int_le, nat_lt, nat_le, ◌==◌, if◌then◌else◌, count_by, Result, Ok, Err}
use Rattle.std.specs.List.{prefix_len, suffix_len}
use Rattle.std.specs.Int.{from_bool}
use Rattle.wnum.specs.declared.trap.Trap.{Trap}
use Rattle.wnum.specs.declared.trap.Trap.TheVariants.{DivideByZero, IntegerOverflow}
use Rattle.wnum.specs.Representation.{signed, from_signed, ibits, from_ibits}

-- ---- arithmetic modulo 2 ^ N

-- the sum
unfoldable pub iadd : ℕ → ℕ → ℕ → ℕ
iadd N a b = (a + b) % 2 ^ N

-- the difference; 2 ^ N is added first, since natural numbers stop at 0
unfoldable pub isub : ℕ → ℕ → ℕ → ℕ
isub N a b = (a + 2 ^ N - b) % 2 ^ N

-- the product
unfoldable pub imul : ℕ → ℕ → ℕ → ℕ
imul N a b = (a * b) % 2 ^ N

-- ---- division

-- the quotient of the numbers as they are, rounded toward zero; nothing by zero
unfoldable pub idiv_u : ℕ → ℕ → ℕ → Result ℕ Trap
idiv_u N a b = if b == 0 then Err DivideByZero else Ok (a / b)

-- a quotient as a number of N bits: 2 ^ (N - 1) is too large to be one
unfoldable pub from_quotient : ℕ → ℤ → Result ℕ Trap
from_quotient N q = if int_lt q (pos (2 ^ (N - 1))) then Ok (from_signed N q) else Err IntegerOverflow

-- the quotient of the signed numbers, rounded toward zero; nothing by zero
unfoldable pub idiv_s : ℕ → ℕ → ℕ → Result ℕ Trap
idiv_s N a b = if b == 0 then Err DivideByZero else from_quotient N (int_div (signed N a) (signed N b))

-- the remainder of the numbers as they are; nothing by zero
unfoldable pub irem_u : ℕ → ℕ → ℕ → Result ℕ Trap
irem_u N a b = if b == 0 then Err DivideByZero else Ok (a % b)

-- the remainder of the signed numbers, with the sign of the dividend; nothing by zero
unfoldable pub irem_s : ℕ → ℕ → ℕ → Result ℕ Trap
irem_s N a b = if b == 0 then Err DivideByZero else Ok (from_signed N (int_rem (signed N a) (signed N b)))

-- ---- bits

-- f at each pair of digits that stand in the same place
unfoldable pub bitwise : (ℕ → ℕ → ℕ) → List ℕ → List ℕ → List ℕ
bitwise f [] es = []
bitwise f (d ∷ ds) [] = []
bitwise f (d ∷ ds) (e ∷ es) = f d e ∷ bitwise f ds es

-- a digit is 1 where both are
unfoldable pub iand : ℕ → ℕ → ℕ → ℕ
iand N a b = from_ibits (bitwise (λ d e. min d e) (ibits N a) (ibits N b))

-- a digit is 1 where at least one is
unfoldable pub ior : ℕ → ℕ → ℕ → ℕ
ior N a b = from_ibits (bitwise (λ d e. max d e) (ibits N a) (ibits N b))

-- a digit is 1 where exactly one is
unfoldable pub ixor : ℕ → ℕ → ℕ → ℕ
ixor N a b = from_ibits (bitwise (λ d e. (d + e) % 2) (ibits N a) (ibits N b))

-- the highest digit
unfoldable pub top_bit : ℕ → ℕ → ℕ
top_bit N a = a / 2 ^ (N - 1) % 2

-- a shift to the left by k, which is b modulo N: the first k digits go, and k zeros follow the
-- others
unfoldable pub ishl : ℕ → ℕ → ℕ → ℕ
ishl N a b = let k = b % N in from_ibits (drop k (ibits N a) ++ replicate k 0)

-- a shift to the right by k: the last k digits go, and k zeros stand before the others
unfoldable pub ishr_u : ℕ → ℕ → ℕ → ℕ
ishr_u N a b = let k = b % N in from_ibits (replicate k 0 ++ take (N - k) (ibits N a))

-- the same, but k copies of the highest digit stand before the others
unfoldable pub ishr_s : ℕ → ℕ → ℕ → ℕ
ishr_s N a b = let k = b % N in from_ibits (replicate k (top_bit N a) ++ take (N - k) (ibits N a))

-- a rotation to the left by k, which is b modulo N: the first k digits go behind the others
unfoldable pub irotl : ℕ → ℕ → ℕ → ℕ
irotl N a b = let k = b % N in from_ibits (drop k (ibits N a) ++ take k (ibits N a))

-- a rotation to the right by k: the last k digits go before the others
unfoldable pub irotr : ℕ → ℕ → ℕ → ℕ
irotr N a b = let k = b % N in from_ibits (drop (N - k) (ibits N a) ++ take (N - k) (ibits N a))

-- how many zeros the digits begin with: N where all are zero
unfoldable pub iclz : ℕ → ℕ → ℕ
iclz N a = prefix_len (λ d. d == 0) (ibits N a)

-- how many zeros they end with: N where all are zero
unfoldable pub ictz : ℕ → ℕ → ℕ
ictz N a = suffix_len (λ d. d == 0) (ibits N a)

-- how many are 1
unfoldable pub ipopcnt : ℕ → ℕ → ℕ
ipopcnt N a = count_by (λ d. d == 1) (ibits N a)

-- ---- tests and relations: 1 where they hold, and 0 where they don't

-- the number is zero
unfoldable pub ieqz : ℕ → ℕ → ℕ
ieqz N a = from_bool (a == 0)

-- a equals b
unfoldable pub ieq : ℕ → ℕ → ℕ → ℕ
ieq N a b = from_bool (a == b)

-- a doesn't equal b
unfoldable pub ine : ℕ → ℕ → ℕ → ℕ
ine N a b = from_bool (not (a == b))

-- a < b, of the numbers as they are
unfoldable pub ilt_u : ℕ → ℕ → ℕ → ℕ
ilt_u N a b = from_bool (nat_lt a b)

-- a > b
unfoldable pub igt_u : ℕ → ℕ → ℕ → ℕ
igt_u N a b = from_bool (nat_lt b a)

-- a <= b
unfoldable pub ile_u : ℕ → ℕ → ℕ → ℕ
ile_u N a b = from_bool (nat_le a b)

-- a >= b
unfoldable pub ige_u : ℕ → ℕ → ℕ → ℕ
ige_u N a b = from_bool (nat_le b a)

-- a < b, of the signed numbers
unfoldable pub ilt_s : ℕ → ℕ → ℕ → ℕ
ilt_s N a b = from_bool (int_lt (signed N a) (signed N b))

-- a > b, of the signed numbers
unfoldable pub igt_s : ℕ → ℕ → ℕ → ℕ
igt_s N a b = from_bool (int_lt (signed N b) (signed N a))

-- a <= b, of the signed numbers
unfoldable pub ile_s : ℕ → ℕ → ℕ → ℕ
ile_s N a b = from_bool (int_le (signed N a) (signed N b))

-- a >= b, of the signed numbers
unfoldable pub ige_s : ℕ → ℕ → ℕ → ℕ
ige_s N a b = from_bool (int_le (signed N b) (signed N a))
