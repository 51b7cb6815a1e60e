-- Each operation answers a number of its type's bits, and each test and relation a number of 32
-- bits: what a crate above needs, since its values carry no tag.
use Rattle.std.proofs.Common.{◌≡◌, ◌≢◌, ◌⊎◌, inl, inr, ℕ, ◌+◌, ◌-◌, ◌*◌, ◌/◌, ◌%◌, ◌^◌, ◌<◌, ◌≤◌, Bool, true, false, not, ◌==◌, nat_lt, nat_le, int_div, int_rem, int_lt, int_le, Ok, sym, ◌∙◌, subst, arith, lit<, lt_of_le_of_lt, mod-lt, pow_pos, div-le_self, SFits, of_z, to_z}
use Rattle.std.proofs.lemmas.Nat.{and_le_l, or_lt, xor_lt, leading_le, trailing_le, ones-le, shr_le}
use Rattle.std.proofs.lemmas.Bool.{cases_eq}
use Rattle.std.proofs.Math.Facts.{Fits-of_z, sfits_to_z, sfits_widen}
use Rattle.std.specs.Int.{from_bool}
use native.Mathlib.Nat.{mod-le}
use lib.Dec.{le→leb}
use lib.Signed.{mag_rem, mag_shr, shr_z}
use mir.Syntax.{Width, w8, w16, w32, w64, w128}
use mir.Val.{bits, hbits}
use Rattle.wnum.specs.Representation.{signed}
use Rattle.wnum.specs.Integer.{iadd, isub, imul, idiv_u, idiv_s, irem_u, irem_s, iand, ior, ixor, ishl, ishr_u, ishr_s, irotl, irotr, iclz, ictz, ipopcnt, ieqz, ieq, ine, ilt_u, igt_u, ile_u, ige_u, ilt_s, igt_s, ile_s, ige_s}
use Rattle.wnum.specs.Conversion.{wrap, extend_u, extend_s, iextend_s}
use Rattle.wnum.proofs.Arithmetic.{idiv_u_is, idiv_u_by_zero, irem_u_is, irem_u_by_zero}
use Rattle.wnum.proofs.Bitwise.{iand_is, ior_is, ixor_is}
use Rattle.wnum.proofs.Counts.{iclz_is, ictz_is, ipopcnt_is}
use Rattle.wnum.proofs.Shifts.{ishl_is, ishr_u_is, turned_lt}
use Rattle.wnum.proofs.Signs.{ishr_s_is, extend_s_is}
use Rattle.wnum.proofs.Quotients.{idiv_s_is, idiv_s_by_zero, idiv_s_traps, irem_s_is, irem_s_by_zero, division_fits}

-- how many bits a type has is one of its numbers
bits_lt : (w : Width) → bits w < 2 ^ bits w
bits_lt w8 = lit< tt
bits_lt w16 = lit< tt
bits_lt w32 = lit< tt
bits_lt w64 = lit< tt
bits_lt w128 = lit< tt

bits_pos : (w : Width) → 0 < bits w
bits_pos w8 = lit< tt
bits_pos w16 = lit< tt
bits_pos w32 = lit< tt
bits_pos w64 = lit< tt
bits_pos w128 = lit< tt

-- ---- arithmetic

pub iadd_lt : (w : Width) (a b : ℕ) → iadd (bits w) a b < 2 ^ bits w
unfolding iadd
iadd_lt w a b = mod-lt (a + b) (pow_pos (bits w))

pub isub_lt : (w : Width) (a b : ℕ) → isub (bits w) a b < 2 ^ bits w
unfolding isub
isub_lt w a b = mod-lt (a + 2 ^ bits w - b) (pow_pos (bits w))

pub imul_lt : (w : Width) (a b : ℕ) → imul (bits w) a b < 2 ^ bits w
unfolding imul
imul_lt w a b = mod-lt (a * b) (pow_pos (bits w))

-- ---- division

pub idiv_u_lt : (w : Width) (a b v : ℕ) → a < 2 ^ bits w → idiv_u (bits w) a b ≡ Ok v → v < 2 ^ bits w
idiv_u_lt w a b v p e = go (cases_eq b 0)
  where
    go : (b ≡ 0) ⊎ (b ≢ 0) → v < 2 ^ bits w
    go (inl z) = absurd (let f = sym (idiv_u_by_zero (bits w) a b z) ∙ e in cc)
    go (inr n) = let f = sym (idiv_u_is (bits w) a b n) ∙ e in let v-is : a / b ≡ v = cc in subst (λ (x : ℕ). x < 2 ^ bits w) v-is (lt_of_le_of_lt (div-le_self a b) p)

pub irem_u_lt : (w : Width) (a b v : ℕ) → a < 2 ^ bits w → irem_u (bits w) a b ≡ Ok v → v < 2 ^ bits w
irem_u_lt w a b v p e = go (cases_eq b 0)
  where
    go : (b ≡ 0) ⊎ (b ≢ 0) → v < 2 ^ bits w
    go (inl z) = absurd (let f = sym (irem_u_by_zero (bits w) a b z) ∙ e in cc)
    go (inr n) = let f = sym (irem_u_is (bits w) a b n) ∙ e in let v-is : a % b ≡ v = cc in subst (λ (x : ℕ). x < 2 ^ bits w) v-is (lt_of_le_of_lt (mod-le a b) p)

pub idiv_s_lt : (w : Width) (a b v : ℕ) → a < 2 ^ bits w → b < 2 ^ bits w → idiv_s (bits w) a b ≡ Ok v → v < 2 ^ bits w
idiv_s_lt w a b v p q e = go (cases_eq b 0) (cases_eq a (2 ^ hbits w)) (cases_eq b (2 ^ bits w - 1))
  where
    fitting : b ≢ 0 → (b ≡ 2 ^ bits w - 1 → a ≡ 2 ^ hbits w → ⊥) → v < 2 ^ bits w
    fitting n k =
        let fits : SFits w (int_div (to_z w a) (to_z w b)) = division_fits w a b p q k in
        let f = sym (idiv_s_is w a b p q n fits) ∙ e in
        let v-is : of_z w (int_div (to_z w a) (to_z w b)) ≡ v = cc in
        subst (λ (x : ℕ). x < 2 ^ bits w) v-is (Fits-of_z fits).fits

    go : (b ≡ 0) ⊎ (b ≢ 0) → (a ≡ 2 ^ hbits w) ⊎ (a ≢ 2 ^ hbits w) → (b ≡ 2 ^ bits w - 1) ⊎ (b ≢ 2 ^ bits w - 1) → v < 2 ^ bits w
    go (inl z) x y = absurd (let f = sym (idiv_s_by_zero (bits w) a b z) ∙ e in cc)
    go (inr n) (inl x) (inl y) = absurd (let f = sym (idiv_s_traps w a b x y) ∙ e in cc)
    go (inr n) (inl x) (inr y) = fitting n (λ f g. y f)
    go (inr n) (inr x) y = fitting n (λ f g. x g)

pub irem_s_lt : (w : Width) (a b v : ℕ) → a < 2 ^ bits w → b < 2 ^ bits w → irem_s (bits w) a b ≡ Ok v → v < 2 ^ bits w
irem_s_lt w a b v p q e = go (cases_eq b 0)
  where
    go : (b ≡ 0) ⊎ (b ≢ 0) → v < 2 ^ bits w
    go (inl z) = absurd (let f = sym (irem_s_by_zero (bits w) a b z) ∙ e in cc)
    go (inr n) =
        let whole : SFits w (to_z w a) = sfits_to_z (record { fits = p }) in
        let fits : SFits w (int_rem (to_z w a) (to_z w b)) = record { sfits = lt_of_le_of_lt (mag_rem (to_z w a) (to_z w b)) whole.sfits } in
        let f = sym (irem_s_is w a b p q n) ∙ e in
        let v-is : of_z w (int_rem (to_z w a) (to_z w b)) ≡ v = cc in
        subst (λ (x : ℕ). x < 2 ^ bits w) v-is (Fits-of_z fits).fits

-- ---- bits

pub iand_lt : (w : Width) (a b : ℕ) → a < 2 ^ bits w → b < 2 ^ bits w → iand (bits w) a b < 2 ^ bits w
iand_lt w a b p q = rw (iand_is (bits w) a b p q) (lt_of_le_of_lt (and_le_l a b) p)

pub ior_lt : (w : Width) (a b : ℕ) → a < 2 ^ bits w → b < 2 ^ bits w → ior (bits w) a b < 2 ^ bits w
ior_lt w a b p q = rw (ior_is (bits w) a b p q) (or_lt (bits w) a b p q)

pub ixor_lt : (w : Width) (a b : ℕ) → a < 2 ^ bits w → b < 2 ^ bits w → ixor (bits w) a b < 2 ^ bits w
ixor_lt w a b p q = rw (ixor_is (bits w) a b p q) (xor_lt (bits w) a b p q)

pub ishl_lt : (w : Width) (a b : ℕ) → ishl (bits w) a b < 2 ^ bits w
ishl_lt w a b = rw (ishl_is (bits w) a b (bits_pos w)) (mod-lt (a * 2 ^ (b % bits w)) (pow_pos (bits w)))

pub ishr_u_lt : (w : Width) (a b : ℕ) → a < 2 ^ bits w → ishr_u (bits w) a b < 2 ^ bits w
ishr_u_lt w a b p = rw (ishr_u_is (bits w) a b (bits_pos w) p) (lt_of_le_of_lt (shr_le a (b % bits w)) p)

pub ishr_s_lt : (w : Width) (a b : ℕ) → a < 2 ^ bits w → ishr_s (bits w) a b < 2 ^ bits w
ishr_s_lt w a b p =
    let whole : SFits w (to_z w a) = sfits_to_z (record { fits = p }) in
    let fits : SFits w (shr_z (to_z w a) (2 ^ (b % bits w))) = record { sfits = lt_of_le_of_lt (mag_shr (to_z w a) (2 ^ (b % bits w))) whole.sfits } in
    rw (ishr_s_is w a b p) (Fits-of_z fits).fits

pub irotl_lt : (w : Width) (a b : ℕ) → a < 2 ^ bits w → irotl (bits w) a b < 2 ^ bits w
unfolding irotl
irotl_lt w a b p = turned_lt (b % bits w) (bits w) a (omega (arith, bits_pos w)) p

pub irotr_lt : (w : Width) (a b : ℕ) → a < 2 ^ bits w → irotr (bits w) a b < 2 ^ bits w
unfolding irotr
irotr_lt w a b p = turned_lt (bits w - b % bits w) (bits w) a (omega arith) p

pub iclz_lt : (w : Width) (a : ℕ) → a < 2 ^ bits w → iclz (bits w) a < 2 ^ bits w
iclz_lt w a p = rw (iclz_is (bits w) a p) (lt_of_le_of_lt (leading_le (bits w) a) (bits_lt w))

pub ictz_lt : (w : Width) (a : ℕ) → ictz (bits w) a < 2 ^ bits w
ictz_lt w a = rw (ictz_is (bits w) a) (lt_of_le_of_lt (trailing_le (bits w) a) (bits_lt w))

pub ipopcnt_lt : (w : Width) (a : ℕ) → a < 2 ^ bits w → ipopcnt (bits w) a < 2 ^ bits w
ipopcnt_lt w a p = rw (ipopcnt_is (bits w) a p) (lt_of_le_of_lt (ones-le (bits w) a p) (bits_lt w))

-- ---- tests and relations

from_bool_lt : (b : Bool) → from_bool b < 2 ^ 32
from_bool_lt true = lit< tt
from_bool_lt false = lit< tt

pub ieqz_lt : (N a : ℕ) → ieqz N a < 2 ^ 32
unfolding ieqz
ieqz_lt N a = from_bool_lt (a == 0)

pub ieq_lt : (N a b : ℕ) → ieq N a b < 2 ^ 32
unfolding ieq
ieq_lt N a b = from_bool_lt (a == b)

pub ine_lt : (N a b : ℕ) → ine N a b < 2 ^ 32
unfolding ine
ine_lt N a b = from_bool_lt (not (a == b))

pub ilt_u_lt : (N a b : ℕ) → ilt_u N a b < 2 ^ 32
unfolding ilt_u
ilt_u_lt N a b = from_bool_lt (nat_lt a b)

pub igt_u_lt : (N a b : ℕ) → igt_u N a b < 2 ^ 32
unfolding igt_u
igt_u_lt N a b = from_bool_lt (nat_lt b a)

pub ile_u_lt : (N a b : ℕ) → ile_u N a b < 2 ^ 32
unfolding ile_u
ile_u_lt N a b = from_bool_lt (nat_le a b)

pub ige_u_lt : (N a b : ℕ) → ige_u N a b < 2 ^ 32
unfolding ige_u
ige_u_lt N a b = from_bool_lt (nat_le b a)

pub ilt_s_lt : (N a b : ℕ) → ilt_s N a b < 2 ^ 32
unfolding ilt_s
ilt_s_lt N a b = from_bool_lt (int_lt (signed N a) (signed N b))

pub igt_s_lt : (N a b : ℕ) → igt_s N a b < 2 ^ 32
unfolding igt_s
igt_s_lt N a b = from_bool_lt (int_lt (signed N b) (signed N a))

pub ile_s_lt : (N a b : ℕ) → ile_s N a b < 2 ^ 32
unfolding ile_s
ile_s_lt N a b = from_bool_lt (int_le (signed N a) (signed N b))

pub ige_s_lt : (N a b : ℕ) → ige_s N a b < 2 ^ 32
unfolding ige_s
ige_s_lt N a b = from_bool_lt (int_le (signed N b) (signed N a))

-- ---- conversions

pub wrap_lt : (v w : Width) (i : ℕ) → wrap (bits v) (bits w) i < 2 ^ bits w
unfolding wrap
wrap_lt v w i = mod-lt i (pow_pos (bits w))

pub extend_u_lt : (i : ℕ) → i < 2 ^ 32 → extend_u 32 64 i < 2 ^ 64
unfolding extend_u
extend_u_lt i p = omega arith

pub extend_s_lt : (v w : Width) (i : ℕ) → hbits v ≤ hbits w → i < 2 ^ bits v → extend_s (bits v) (bits w) i < 2 ^ bits w
extend_s_lt v w i wider p =
    let narrow : SFits v (to_z v i) = sfits_to_z (record { fits = p }) in
    let wide : SFits w (to_z v i) = sfits_widen (le→leb (hbits v) (hbits w) wider) narrow in
    rw (extend_s_is v w i p) (Fits-of_z wide).fits

pub iextend_s_lt : (v w : Width) (i : ℕ) → hbits v ≤ hbits w → iextend_s (bits v) (bits w) i < 2 ^ bits w
unfolding iextend_s
iextend_s_lt v w i wider = extend_s_lt v w (wrap (bits w) (bits v) i) wider (wrap_lt w v i)
