-- Shifts and rotations of digits, as products and quotients by powers of two.
use Rattle.std.proofs.Common.{mul-le-mul_right, suc-mul, pow-add, mod-lt, ◌≡◌, ℕ, zero, suc, ◌+◌, ◌-◌, ◌*◌, ◌/◌, ◌%◌, ◌^◌, ◌<◌, ◌≤◌, ◌++◌, length, take, drop, replicate, bit_or, refl, sym, ap, ◌∙◌, subst, arith, pow_pos, div-one, mul-one, mod-eq_of_lt}
use Rattle.std.proofs.lemmas.Nat.{mod-pow-add, shl-shr, mod_low, or_shifted}
use native.Mathlib.Nat.{mod_self, div-eq_of_lt, mul-mod_left}
use lib.ListN.{length-replicate}
use lib.Pow.{shr_mod, shr_lt}
use lib.Bits.{or_self, or_shifted_r}
use Rattle.std.specs.Int.{rotate_left, rotate_right}
use mir.Syntax.{Width}
use mir.Val.{bits}
use Rattle.wnum.specs.Representation.{ibits, from_ibits}
use Rattle.wnum.specs.Integer.{ishl, ishr_u, irotl, irotr}
use Rattle.wnum.proofs.Digits.{length-ibits, from_ibits-append, from_ibits-ibits, from_ibits-replicate, drop-ibits, take-ibits}

-- what a shift to the left by k leaves in N digits are the N - k lower digits
pub low_digits_up : (k N a : ℕ) → k ≤ N → (a * 2 ^ k) % 2 ^ N ≡ (a % 2 ^ (N - k)) * 2 ^ k
low_digits_up k N a h =
    let whole : (N - k) + k ≡ N = omega arith in
    let high : a * 2 ^ k / 2 ^ k ≡ a = shl-shr a k in
    let low : (a * 2 ^ k) % 2 ^ k ≡ 0 = subst (λ (x : ℕ). x % 2 ^ k ≡ 0) (omega arith) (mod_low a k 0 (pow_pos k)) in
    let parts : (a * 2 ^ k) % 2 ^ ((N - k) + k) ≡ (a * 2 ^ k / 2 ^ k % 2 ^ (N - k)) * 2 ^ k + (a * 2 ^ k) % 2 ^ k = mod-pow-add (a * 2 ^ k) (N - k) k in
    rw (whole, high, low) at parts ∙ omega arith

-- zeros behind
pub shifted_left : (k N a : ℕ) → k ≤ N → from_ibits (drop k (ibits N a) ++ replicate k 0) ≡ (a * 2 ^ k) % 2 ^ N
shifted_left k N a h =
    rw (from_ibits-append (drop k (ibits N a)) (replicate k 0), length-replicate {A = ℕ} k 0, drop-ibits k N a h, from_ibits-ibits (N - k) a, from_ibits-replicate k 0)
    (omega (arith, low_digits_up k N a h))

-- the first N - k digits of a number of N digits are those of its quotient
pub first_digits : (k N a : ℕ) → k ≤ N → a < 2 ^ N → from_ibits (take (N - k) (ibits N a)) ≡ a / 2 ^ k
first_digits k N a h p =
    let back : N - (N - k) ≡ k = omega arith in
    let whole : N ≡ (N - k) + k = omega arith in
    let below : a < 2 ^ ((N - k) + k) = subst (λ (x : ℕ). a < 2 ^ x) whole p in
    rw (take-ibits (N - k) N a (omega arith), back, from_ibits-ibits (N - k) (a / 2 ^ k)) (shr_mod (N - k) k below)

-- the first k digits are k digits
pub length_first : (k N a : ℕ) → k ≤ N → length (take k (ibits N a)) ≡ k
length_first k N a h = ap length (take-ibits k N a h) ∙ length-ibits k (a / 2 ^ (N - k))

-- k digits d before
pub shifted_right : (d k N a : ℕ) → k ≤ N → a < 2 ^ N → from_ibits (replicate k d ++ take (N - k) (ibits N a)) ≡ d * (2 ^ k - 1) * 2 ^ (N - k) + a / 2 ^ k
shifted_right d k N a h p =
    rw (from_ibits-append (replicate k d) (take (N - k) (ibits N a)), length_first (N - k) N a (omega arith), from_ibits-replicate k d, first_digits k N a h p) refl

-- the first k digits behind the others
pub turned : (k N a : ℕ) → k ≤ N → a < 2 ^ N → from_ibits (drop k (ibits N a) ++ take k (ibits N a)) ≡ (a * 2 ^ k) % 2 ^ N + a / 2 ^ (N - k)
turned k N a h p =
    let back : N - (N - k) ≡ k = omega arith in
    let first : from_ibits (take (N - (N - k)) (ibits N a)) ≡ a / 2 ^ (N - k) = first_digits (N - k) N a (omega arith) p in
    rw (from_ibits-append (drop k (ibits N a)) (take k (ibits N a)), length_first k N a h, drop-ibits k N a h, from_ibits-ibits (N - k) a, rw back at first)
    (omega (arith, low_digits_up k N a h))

-- the two parts of a rotation share no digit
pub joined : (k N a : ℕ) → k < N → a < 2 ^ N → bit_or ((a * 2 ^ k) % 2 ^ N) (a / 2 ^ ((N - k) % N)) ≡ (a * 2 ^ k) % 2 ^ N + a / 2 ^ (N - k)
joined zero N a h p =
    let whole : N - 0 ≡ N = omega arith in
    let none : (N - 0) % N ≡ 0 = ap (λ (x : ℕ). x % N) whole ∙ mod_self N in
    let one : (a * 2 ^ 0) % 2 ^ N ≡ a = subst (λ (x : ℕ). x % 2 ^ N ≡ a) (sym (mul-one a)) (mod-eq_of_lt p) in
    let nothing : a / 2 ^ (N - 0) ≡ 0 = ap (λ (x : ℕ). a / 2 ^ x) whole ∙ div-eq_of_lt p in
    rw (none, one, nothing, div-one a, or_self a) (omega arith)
joined (suc j) N a h p =
    let same : (N - suc j) % N ≡ N - suc j = mod-eq_of_lt (omega arith) in
    let parts : N ≡ suc j + (N - suc j) = omega arith in
    let below : a / 2 ^ (N - suc j) < 2 ^ suc j = shr_lt (suc j) (N - suc j) (subst (λ (x : ℕ). a < 2 ^ x) parts p) in
    rw (same, low_digits_up (suc j) N a (omega arith)) (or_shifted (a % 2 ^ (N - suc j)) (suc j) (a / 2 ^ (N - suc j)) below)

-- the shifts and rotations, as `<<`, `>>` and std's rotations give them
pub ishl_is : (N a b : ℕ) → 0 < N → ishl N a b ≡ (a * 2 ^ (b % N)) % 2 ^ N
unfolding ishl
ishl_is N a b p = shifted_left (b % N) N a (omega arith)

pub ishr_u_is : (N a b : ℕ) → 0 < N → a < 2 ^ N → ishr_u N a b ≡ a / 2 ^ (b % N)
unfolding ishr_u
ishr_u_is N a b p q = shifted_right 0 (b % N) N a (omega arith) q ∙ omega arith

pub irotl_is : (w : Width) (a b : ℕ) → 0 < bits w → a < 2 ^ bits w → irotl (bits w) a b ≡ rotate_left w a (b % bits w)
unfolding irotl
irotl_is w a b p q =
    let again : b % bits w % bits w ≡ b % bits w = mod-eq_of_lt (omega arith) in
    rw again (turned (b % bits w) (bits w) a (omega arith) q ∙ sym (joined (b % bits w) (bits w) a (omega arith) q))

-- to turn right by k is to turn left by the other digits
pub joined_right : (k N a : ℕ) → k < N → a < 2 ^ N → bit_or (a / 2 ^ k) ((a * 2 ^ ((N - k) % N)) % 2 ^ N) ≡ (a * 2 ^ (N - k)) % 2 ^ N + a / 2 ^ k
joined_right zero N a h p =
    let whole : N - 0 ≡ N = omega arith in
    let none : (N - 0) % N ≡ 0 = ap (λ (x : ℕ). x % N) whole ∙ mod_self N in
    let one : (a * 2 ^ 0) % 2 ^ N ≡ a = subst (λ (x : ℕ). x % 2 ^ N ≡ a) (sym (mul-one a)) (mod-eq_of_lt p) in
    let nothing : (a * 2 ^ N) % 2 ^ N ≡ 0 = mul-mod_left a (2 ^ N) in
    rw (none, one, whole, nothing, div-one a, or_self a) (omega arith)
joined_right (suc j) N a h p =
    let same : (N - suc j) % N ≡ N - suc j = mod-eq_of_lt (omega arith) in
    let back : N - (N - suc j) ≡ suc j = omega arith in
    let parts : N ≡ (N - suc j) + suc j = omega arith in
    let below : a / 2 ^ suc j < 2 ^ (N - suc j) = shr_lt (N - suc j) (suc j) (subst (λ (x : ℕ). a < 2 ^ x) parts p) in
    let up : (a * 2 ^ (N - suc j)) % 2 ^ N ≡ (a % 2 ^ suc j) * 2 ^ (N - suc j) = rw back at (low_digits_up (N - suc j) N a (omega arith)) in
    rw (same, up) (or_shifted_r (a % 2 ^ suc j) (N - suc j) (a / 2 ^ suc j) below)

pub irotr_is : (w : Width) (a b : ℕ) → 0 < bits w → a < 2 ^ bits w → irotr (bits w) a b ≡ rotate_right w a (b % bits w)
unfolding irotr
irotr_is w a b p q =
    let again : b % bits w % bits w ≡ b % bits w = mod-eq_of_lt (omega arith) in
    let back : bits w - (bits w - b % bits w) ≡ b % bits w = omega arith in
    let left : from_ibits (drop (bits w - b % bits w) (ibits (bits w) a) ++ take (bits w - b % bits w) (ibits (bits w) a)) ≡ (a * 2 ^ (bits w - b % bits w)) % 2 ^ bits w + a / 2 ^ (b % bits w) = rw back at (turned (bits w - b % bits w) (bits w) a (omega arith) q) in
    rw again (left ∙ sym (joined_right (b % bits w) (bits w) a (omega arith) q))

-- a rotation has as many digits as before
pub turned_lt : (k N a : ℕ) → k ≤ N → a < 2 ^ N → from_ibits (drop k (ibits N a) ++ take k (ibits N a)) < 2 ^ N
turned_lt k N a h p =
    let parts : N ≡ k + (N - k) = omega arith in
    let halves : N ≡ (N - k) + k = omega arith in
    let power : 2 ^ N ≡ 2 ^ (N - k) * 2 ^ k = ap (λ (x : ℕ). 2 ^ x) halves ∙ pow-add 2 (N - k) k in
    let first : a / 2 ^ (N - k) < 2 ^ k = shr_lt k (N - k) (subst (λ (x : ℕ). a < 2 ^ x) parts p) in
    let low : a % 2 ^ (N - k) < 2 ^ (N - k) = mod-lt a (pow_pos (N - k)) in
    let whole : suc (a % 2 ^ (N - k)) * 2 ^ k ≤ 2 ^ (N - k) * 2 ^ k = mul-le-mul_right (2 ^ k) low in
    rw (turned k N a h p, low_digits_up k N a h) (omega (arith, whole, power, suc-mul (a % 2 ^ (N - k)) (2 ^ k)))
