-- The signed interpretation is std's reading of a signed type, and so are the relations, the shift
-- and the extension that rest on it.
use Rattle.std.proofs.Common.{lt-ltb, le-ltb, ◌≡◌, ℕ, suc, ◌+◌, ◌-◌, ◌*◌, ◌/◌, ◌%◌, ◌^◌, ◌<◌, ◌≤◌, ◌⊎◌, inl, inr, ℤ, pos, negsuc, ◌-ℤ◌, cond, nat_lt, refl, ap, ap₂, ◌∙◌, subst, arith, add-one, add-mul, suc-mul, pow_pos, pow-add, mod-lt}
use Rattle.std.proofs.lemmas.Int.{ints, to_z_pos}
use native.Mathlib.Nat.{div-eq_of_lt}
use lib.Pow.{shr_lt}
use Rattle.wnum.proofs.Counts.{top_one}
use Rattle.std.proofs.lemmas.Nat.{shr_high, shr_split}
use Rattle.std.proofs.lemmas.Bool.{cases_lt}
use Rattle.std.proofs.lemmas.Bool.Decides.{nat_tests}
use Rattle.std.specs.Int.{from_bool}
use lib.Signed.{lt_z, le_z, shr_z}
use mir.Syntax.{Width, w8, w16, w32, w64, w128}
use mir.Val.{bits, hbits, to_z, of_z}
use Rattle.wnum.specs.Representation.{signed, from_signed}
use Rattle.wnum.specs.Integer.{ilt_s, igt_s, ile_s, ige_s, ishr_s, top_bit}
use Rattle.wnum.specs.Conversion.{wrap, extend_s, iextend_s}
use Rattle.wnum.proofs.Shifts.{shifted_right}

-- a type has one bit more than its non-negative half
pub bits_is : (w : Width) → bits w ≡ suc (hbits w)
bits_is w8 = refl
bits_is w16 = refl
bits_is w32 = refl
bits_is w64 = refl
bits_is w128 = refl

-- the same, as the definitions write it
pub hbits_is : (w : Width) → bits w - 1 ≡ hbits w
hbits_is w8 = refl
hbits_is w16 = refl
hbits_is w32 = refl
hbits_is w64 = refl
hbits_is w128 = refl

-- N digits from the upper half of the range
upper : (N a : ℕ) → a < 2 ^ N → pos a -ℤ pos (2 ^ N) ≡ negsuc (2 ^ N - suc a)
upper N a h = omega (arith, ints)

-- the signed interpretation is the code's signed type
pub signed_is : (w : Width) (a : ℕ) → a < 2 ^ bits w → signed (bits w) a ≡ to_z w a
unfolding signed
signed_is w a h = rw (hbits_is w, upper (bits w) a h) (go (cases_lt a (2 ^ hbits w)))
  where
    go : (a < 2 ^ hbits w) ⊎ (2 ^ hbits w ≤ a) → cond (nat_lt a (2 ^ hbits w)) (pos a) (negsuc (2 ^ bits w - suc a)) ≡ to_z w a
    go (inl l) = grind (arith, nat_tests)
    go (inr l) = grind (arith, nat_tests)

-- and its inverse the cast back
pub from_signed_is : (w : Width) (z : ℤ) → from_signed (bits w) z ≡ of_z w z
unfolding from_signed
from_signed_is w (pos n) = refl
from_signed_is w (negsuc n) = ap (λ (x : ℕ). 2 ^ bits w - x) (add-one n)

-- the relations of the signed numbers
pub ilt_s_is : (w : Width) (a b : ℕ) → a < 2 ^ bits w → b < 2 ^ bits w → ilt_s (bits w) a b ≡ from_bool (lt_z (to_z w a) (to_z w b))
unfolding ilt_s
ilt_s_is w a b p q = ap₂ (λ (x y : ℤ). from_bool (lt_z x y)) (signed_is w a p) (signed_is w b q)

pub igt_s_is : (w : Width) (a b : ℕ) → a < 2 ^ bits w → b < 2 ^ bits w → igt_s (bits w) a b ≡ from_bool (lt_z (to_z w b) (to_z w a))
unfolding igt_s
igt_s_is w a b p q = ap₂ (λ (x y : ℤ). from_bool (lt_z y x)) (signed_is w a p) (signed_is w b q)

pub ile_s_is : (w : Width) (a b : ℕ) → a < 2 ^ bits w → b < 2 ^ bits w → ile_s (bits w) a b ≡ from_bool (le_z (to_z w a) (to_z w b))
unfolding ile_s
ile_s_is w a b p q = ap₂ (λ (x y : ℤ). from_bool (le_z x y)) (signed_is w a p) (signed_is w b q)

pub ige_s_is : (w : Width) (a b : ℕ) → a < 2 ^ bits w → b < 2 ^ bits w → ige_s (bits w) a b ≡ from_bool (le_z (to_z w b) (to_z w a))
unfolding ige_s
ige_s_is w a b p q = ap₂ (λ (x y : ℤ). from_bool (le_z y x)) (signed_is w a p) (signed_is w b q)

-- the same signed number in more bits
pub extend_s_is : (v w : Width) (a : ℕ) → a < 2 ^ bits v → extend_s (bits v) (bits w) a ≡ of_z w (to_z v a)
unfolding extend_s
extend_s_is v w a h = ap (from_signed (bits w)) (signed_is v a h) ∙ from_signed_is w (to_z v a)

-- the signed number of the lowest bits, in all of them
pub iextend_s_is : (v w : Width) (a : ℕ) → iextend_s (bits v) (bits w) a ≡ of_z w (to_z v (a % 2 ^ bits v))
unfolding iextend_s wrap
iextend_s_is v w a = extend_s_is v w (a % 2 ^ bits v) (mod-lt a (pow_pos (bits v)))

-- what is read from the upper half
pub to_z_upper : (w : Width) (a : ℕ) → 2 ^ hbits w ≤ a → to_z w a ≡ negsuc (2 ^ bits w - suc a)
to_z_upper w a h = grind (arith, nat_tests)

-- the highest digit tells the halves apart
top_lower : (h a : ℕ) → a < 2 ^ h → top_bit (suc h) a ≡ 0
unfolding top_bit
top_lower h a l = let down : suc h - 1 ≡ h = omega arith in ap (λ (x : ℕ). x % 2) (ap (λ (x : ℕ). a / 2 ^ x) down ∙ div-eq_of_lt l)

top_upper : (h a : ℕ) → 2 ^ h ≤ a → a < 2 ^ suc h → top_bit (suc h) a ≡ 1
unfolding top_bit
top_upper h a l p = let down : suc h - 1 ≡ h = omega arith in ap (λ (x : ℕ). x % 2) (ap (λ (x : ℕ). a / 2 ^ x) down ∙ top_one h a l p)

-- the quotient of the number whose digits are the other ones
complement : (k N a : ℕ) → k ≤ N → a < 2 ^ N → (2 ^ N - suc a) / 2 ^ k ≡ 2 ^ (N - k) - suc (a / 2 ^ k)
complement k N a h p =
    let parts : N ≡ (N - k) + k = omega arith in
    let power : 2 ^ N ≡ 2 ^ (N - k) * 2 ^ k = ap (λ (x : ℕ). 2 ^ x) parts ∙ pow-add 2 (N - k) k in
    let below : a / 2 ^ k < 2 ^ (N - k) = shr_lt (N - k) k (subst (λ (x : ℕ). a < 2 ^ x) parts p) in
    let rest : 2 ^ (N - k) ≡ (2 ^ (N - k) - suc (a / 2 ^ k)) + suc (a / 2 ^ k) = omega arith in
    let spread : 2 ^ (N - k) * 2 ^ k ≡ (2 ^ (N - k) - suc (a / 2 ^ k)) * 2 ^ k + suc (a / 2 ^ k) * 2 ^ k = ap (λ (x : ℕ). x * 2 ^ k) rest ∙ add-mul (2 ^ (N - k) - suc (a / 2 ^ k)) (suc (a / 2 ^ k)) (2 ^ k) in
    let low : a % 2 ^ k < 2 ^ k = mod-lt a (pow_pos k) in
    let whole : (2 ^ (N - k) - suc (a / 2 ^ k)) * 2 ^ k + (2 ^ k - suc (a % 2 ^ k)) ≡ 2 ^ N - suc a = omega (arith, shr_split a k, suc-mul (a / 2 ^ k) (2 ^ k), power, spread) in
    subst (λ (x : ℕ). x / 2 ^ k ≡ 2 ^ (N - k) - suc (a / 2 ^ k)) whole (shr_high (2 ^ (N - k) - suc (a / 2 ^ k)) k (2 ^ k - suc (a % 2 ^ k)) (omega arith))

-- copies of a highest digit of 1 before the others
copies : (k N a : ℕ) → k ≤ N → a < 2 ^ N → 1 * (2 ^ k - 1) * 2 ^ (N - k) + a / 2 ^ k ≡ 2 ^ N - suc ((2 ^ N - suc a) / 2 ^ k)
copies k N a h p =
    let parts : N ≡ (N - k) + k = omega arith in
    let turned_parts : N ≡ k + (N - k) = omega arith in
    let power : 2 ^ N ≡ 2 ^ k * 2 ^ (N - k) = ap (λ (x : ℕ). 2 ^ x) turned_parts ∙ pow-add 2 k (N - k) in
    let below : a / 2 ^ k < 2 ^ (N - k) = shr_lt (N - k) k (subst (λ (x : ℕ). a < 2 ^ x) parts p) in
    let one : 2 ^ k ≡ 1 * (2 ^ k - 1) + 1 = omega (arith, pow_pos k) in
    let spread : 2 ^ k * 2 ^ (N - k) ≡ 1 * (2 ^ k - 1) * 2 ^ (N - k) + 1 * 2 ^ (N - k) = ap (λ (x : ℕ). x * 2 ^ (N - k)) one ∙ add-mul (1 * (2 ^ k - 1)) 1 (2 ^ (N - k)) in
    omega (arith, complement k N a h p, power, spread)

-- the shift that copies the highest digit is the quotient of the signed number, rounded down
pub ishr_s_is : (w : Width) (a b : ℕ) → a < 2 ^ bits w → ishr_s (bits w) a b ≡ of_z w (shr_z (to_z w a) (2 ^ (b % bits w)))
unfolding ishr_s
ishr_s_is w a b p = shifted_right (top_bit (bits w) a) (b % bits w) (bits w) a small p ∙ go (cases_lt a (2 ^ hbits w))
  where
    small : b % bits w ≤ bits w
    small = omega (arith, bits_is w)

    go : (a < 2 ^ hbits w) ⊎ (2 ^ hbits w ≤ a) → top_bit (bits w) a * (2 ^ (b % bits w) - 1) * 2 ^ (bits w - b % bits w) + a / 2 ^ (b % bits w) ≡ of_z w (shr_z (to_z w a) (2 ^ (b % bits w)))
    go (inl l) =
        let read : to_z w a ≡ pos a = to_z_pos w a l in
        let top : top_bit (bits w) a ≡ 0 = ap (λ (x : ℕ). top_bit x a) (bits_is w) ∙ top_lower (hbits w) a l in
        rw (read, top) (omega arith)
    go (inr l) =
        let top : top_bit (bits w) a ≡ 1 = ap (λ (x : ℕ). top_bit x a) (bits_is w) ∙ top_upper (hbits w) a l (subst (λ (x : ℕ). a < 2 ^ x) (bits_is w) p) in
        rw (to_z_upper w a l, top) (copies (b % bits w) (bits w) a small p)

-- `from_signed` is the inverse of `signed`
pub from_signed-signed : (N i : ℕ) → i < 2 ^ N → from_signed N (signed N i) ≡ i
unfolding from_signed signed
from_signed-signed N i h = rw (upper N i h) (go (cases_lt i (2 ^ (N - 1))))
  where
    go : (i < 2 ^ (N - 1)) ⊎ (2 ^ (N - 1) ≤ i) → from_signed N (cond (nat_lt i (2 ^ (N - 1))) (pos i) (negsuc (2 ^ N - suc i))) ≡ i
    go (inl l) = rw (lt-ltb i (2 ^ (N - 1)) l) refl
    go (inr l) = rw (le-ltb i (2 ^ (N - 1)) l) (omega arith)
