-- Laws of a number's binary digits, highest first: what the parts of `ibits` spell.
use Rattle.std.proofs.Common.{◌≡◌, ℕ, zero, suc, ◌+◌, ◌-◌, ◌*◌, ◌/◌, ◌%◌, ◌^◌, ◌<◌, ◌≤◌, List, [], ◌∷◌, ◌++◌, length, take, drop, replicate, refl, sym, ap, ◌∙◌, subst, arith, length-append, pow-add, pow_pos, pow-suc, add-mul, mul-add, mul_assoc, mul-zero, add-one, one-add, not-suc-le-zero, le_of_suc-le-suc, shr-shr, div-one, zero-mul, shr_lt}
use Rattle.std.proofs.lemmas.Nat.{mod-pow-add}
use lib.ListN.{length-replicate}
use Rattle.wnum.specs.Representation.{ibits, from_ibits}

-- there are as many digits as asked for
pub length-ibits : (N a : ℕ) → length (ibits N a) ≡ N
unfolding ibits
length-ibits zero a = refl
length-ibits (suc n) a = ap suc (length-ibits n a)

-- digits before others count for as many places more
pub from_ibits-append : (ds es : List ℕ) → from_ibits (ds ++ es) ≡ from_ibits ds * 2 ^ length es + from_ibits es
unfolding from_ibits
from_ibits-append [] es = omega (arith, zero-mul (2 ^ length es))
from_ibits-append (d ∷ ds) es =
    let power : 2 ^ length (ds ++ es) ≡ 2 ^ length ds * 2 ^ length es = ap (λ (x : ℕ). 2 ^ x) (length-append ds es) ∙ pow-add 2 (length ds) (length es) in
    let spread : (d * 2 ^ length ds + from_ibits ds) * 2 ^ length es ≡ d * (2 ^ length ds * 2 ^ length es) + from_ibits ds * 2 ^ length es = add-mul (d * 2 ^ length ds) (from_ibits ds) (2 ^ length es) ∙ ap (λ (x : ℕ). x + from_ibits ds * 2 ^ length es) (mul_assoc d (2 ^ length ds) (2 ^ length es)) in
    let scaled : d * 2 ^ length (ds ++ es) ≡ d * (2 ^ length ds * 2 ^ length es) = ap (λ (x : ℕ). d * x) power in
    omega (arith, from_ibits-append ds es, spread, scaled)

-- the digits of a spell a, as far as they reach
pub from_ibits-ibits : (N a : ℕ) → from_ibits (ibits N a) ≡ a % 2 ^ N
unfolding ibits from_ibits
from_ibits-ibits zero a = omega arith
from_ibits-ibits (suc n) a =
    rw (length-ibits n a, from_ibits-ibits n a, ← one-add n) (sym (mod-pow-add a 1 n))

-- k equal digits
pub from_ibits-replicate : (k d : ℕ) → from_ibits (replicate k d) ≡ d * (2 ^ k - 1)
unfolding from_ibits
from_ibits-replicate zero d = sym (mul-zero d)
from_ibits-replicate (suc k) d =
    let more : 2 ^ k + (2 ^ k - 1) ≡ 2 ^ suc k - 1 = omega (arith, pow_pos k, pow-suc 2 k) in
    rw (length-replicate k d, from_ibits-replicate k d) (sym (mul-add d (2 ^ k) (2 ^ k - 1)) ∙ ap (λ (x : ℕ). d * x) more)

-- what is left behind the first k digits are the lower digits
pub drop-ibits : (k N a : ℕ) → k ≤ N → drop k (ibits N a) ≡ ibits (N - k) a
unfolding ibits
drop-ibits zero N a h = ap (λ (x : ℕ). ibits x a) (omega arith)
drop-ibits (suc k) zero a h = absurd (not-suc-le-zero h)
drop-ibits (suc k) (suc n) a h = drop-ibits k n a (le_of_suc-le-suc h) ∙ ap (λ (x : ℕ). ibits x a) (omega arith)

-- the first k digits are those of the number that is left without the others
pub take-ibits : (k N a : ℕ) → k ≤ N → take k (ibits N a) ≡ ibits k (a / 2 ^ (N - k))
unfolding ibits
take-ibits zero N a h = refl
take-ibits (suc k) zero a h = absurd (not-suc-le-zero h)
take-ibits (suc k) (suc n) a h =
    let l : k ≤ n = le_of_suc-le-suc h in
    let same : suc n - suc k ≡ n - k = omega arith in
    let back : (n - k) + k ≡ n = omega arith in
    rw (take-ibits k n a l, same, shr-shr a (n - k) k, back) refl

-- the last digit is the remainder by 2
pub ibits-snoc : (n a : ℕ) → ibits (suc n) a ≡ ibits n (a / 2) ++ (a % 2 ∷ [])
unfolding ibits
ibits-snoc zero a = ap (λ (x : ℕ). x % 2 ∷ []) (div-one a)
ibits-snoc (suc n) a =
    rw (ibits-snoc n a, shr-shr a 1 n, one-add n) refl

-- half a number has a digit less
pub half_lt : (n a : ℕ) → a < 2 ^ suc n → a / 2 < 2 ^ n
half_lt n a h = shr_lt n 1 (subst (λ (x : ℕ). a < 2 ^ x) (sym (add-one n)) h)
