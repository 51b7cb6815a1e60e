-- The operations on pairs of digits are std's on the numbers.
use Rattle.std.proofs.Common.{◌≡◌, ℕ, zero, suc, ◌+◌, ◌*◌, ◌/◌, ◌%◌, ◌^◌, ◌<◌, min, max, List, [], ◌∷◌, ◌++◌, length, bit_and, bit_or, bit_xor, refl, sym, ap, ap₂, ◌∙◌, arith}
use lib.Bits.{differ, and_step, or_step, xor_step}
use Rattle.wnum.specs.Representation.{ibits, from_ibits}
use Rattle.wnum.specs.Integer.{bitwise, iand, ior, ixor}
use Rattle.wnum.proofs.Digits.{length-ibits, from_ibits-append, ibits-snoc, half_lt}

-- the last digits are a pair too
pub bitwise-snoc : (f : ℕ → ℕ → ℕ) (ds es : List ℕ) (d e : ℕ) → length ds ≡ length es → bitwise f (ds ++ (d ∷ [])) (es ++ (e ∷ [])) ≡ bitwise f ds es ++ (f d e ∷ [])
unfolding bitwise
bitwise-snoc f [] [] d e h = refl
bitwise-snoc f [] (y ∷ ys) d e h = cc
bitwise-snoc f (x ∷ xs) [] d e h = cc
bitwise-snoc f (x ∷ xs) (y ∷ ys) d e h = ap (λ (zs : List ℕ). f x y ∷ zs) (bitwise-snoc f xs ys d e (omega arith))

-- one more digit behind
pub from_ibits-snoc : (ds : List ℕ) (d : ℕ) → from_ibits (ds ++ (d ∷ [])) ≡ from_ibits ds * 2 + d
unfolding from_ibits
from_ibits-snoc ds d = from_ibits-append ds (d ∷ []) ∙ omega arith

-- o is the operation that f makes of digits, if it is made of the halves and the last digits in
-- that way
pub bitwise_is : (f o : ℕ → ℕ → ℕ) → o 0 0 ≡ 0 → ((a b : ℕ) → o a b ≡ o (a / 2) (b / 2) * 2 + f (a % 2) (b % 2)) → (N a b : ℕ) → a < 2 ^ N → b < 2 ^ N → from_ibits (bitwise f (ibits N a) (ibits N b)) ≡ o a b
unfolding ibits from_ibits bitwise
bitwise_is f o none step zero a b p q =
    let a-is : a ≡ 0 = omega arith in
    let b-is : b ≡ 0 = omega arith in
    rw (a-is, b-is) (sym none)
bitwise_is f o none step (suc n) a b p q =
    let equal : length (ibits n (a / 2)) ≡ length (ibits n (b / 2)) = length-ibits n (a / 2) ∙ sym (length-ibits n (b / 2)) in
    ap₂ (λ (x y : List ℕ). from_ibits (bitwise f x y)) (ibits-snoc n a) (ibits-snoc n b)
    ∙ ap from_ibits (bitwise-snoc f (ibits n (a / 2)) (ibits n (b / 2)) (a % 2) (b % 2) equal)
    ∙ from_ibits-snoc (bitwise f (ibits n (a / 2)) (ibits n (b / 2))) (f (a % 2) (b % 2))
    ∙ ap (λ (x : ℕ). x * 2 + f (a % 2) (b % 2)) (bitwise_is f o none step n (a / 2) (b / 2) (half_lt n a p) (half_lt n b q))
    ∙ sym (step a b)

-- of two digits, exactly one is 1 where they differ
one_of_two : (d e : ℕ) → d < 2 → e < 2 → differ d e ≡ (d + e) % 2
one_of_two zero zero p q = refl
one_of_two zero (suc zero) p q = refl
one_of_two zero (suc (suc e)) p q = absurd (omega arith)
one_of_two (suc zero) zero p q = refl
one_of_two (suc zero) (suc zero) p q = refl
one_of_two (suc zero) (suc (suc e)) p q = absurd (omega arith)
one_of_two (suc (suc d)) e p q = absurd (omega arith)

-- the three operations, as `&`, `|` and `^` give them
pub iand_is : (N a b : ℕ) → a < 2 ^ N → b < 2 ^ N → iand N a b ≡ bit_and a b
unfolding iand
iand_is N a b = bitwise_is (λ d e. min d e) bit_and refl and_step N a b

pub ior_is : (N a b : ℕ) → a < 2 ^ N → b < 2 ^ N → ior N a b ≡ bit_or a b
unfolding ior
ior_is N a b = bitwise_is (λ d e. max d e) bit_or refl or_step N a b

pub ixor_is : (N a b : ℕ) → a < 2 ^ N → b < 2 ^ N → ixor N a b ≡ bit_xor a b
unfolding ixor
ixor_is N a b =
    bitwise_is (λ d e. (d + e) % 2) bit_xor refl
    (λ x y. xor_step x y ∙ ap (λ (z : ℕ). bit_xor (x / 2) (y / 2) * 2 + z) (one_of_two (x % 2) (y % 2) (omega arith) (omega arith))) N a b
