-- Division and remainder of signed numbers are std's at a signed type, where the quotient fits it.
use Rattle.std.proofs.Common.{◌≡◌, ℕ, zero, suc, ◌-◌, ◌/◌, ◌^◌, ◌<◌, ℤ, pos, negsuc, neg_ℤ, true, false, ◌==◌, int_lt, int_div, int_rem, Ok, Err, refl, sym, ap, ap₂, ◌∙◌, arith, lt-ltb}
use Rattle.std.proofs.lemmas.Int.{to_z-of_z, of_z-to_z}
use Rattle.std.proofs.lemmas.Bool.Decides.{nat_tests}
use native.Mathlib.Nat.{div-one, div-le_self, div-lt_self}
use lib.Signed.{mag}
use Rattle.std.proofs.Math.Facts.{sfits_to_z}
use mir.ValLaws.{pow-bits}
use mir.Syntax.{Width, w8, w16, w32, w64, w128}
use mir.Val.{bits, hbits, to_z, of_z, SFits}
use Rattle.wnum.specs.declared.trap.Trap.TheVariants.{DivideByZero, IntegerOverflow}
use Rattle.wnum.specs.Representation.{signed}
use Rattle.wnum.specs.Integer.{idiv_s, irem_s, from_quotient}
use Rattle.wnum.proofs.Signs.{signed_is, from_signed_is, hbits_is}

-- the size of a number that is negated, as a signed type's range counts it
negated : (n : ℕ) → mag (neg_ℤ (pos n)) ≡ n - 1
negated zero = refl
negated (suc n) = omega arith

-- only the least number by -1 has a quotient that is too large
pub quotient_fits : (w : Width) (x y : ℤ) → SFits w x → SFits w y → (of_z w y ≡ 2 ^ bits w - 1 → of_z w x ≡ 2 ^ hbits w → ⊥) → SFits w (int_div x y)
quotient_fits w (pos a) (pos b) fx fy h = record { sfits = omega (arith, fx.sfits, div-le_self a b) }
quotient_fits w (pos a) (negsuc b) fx fy h = record { sfits = omega (arith, fx.sfits, div-le_self a (suc b), negated (a / suc b)) }
quotient_fits w (negsuc a) (pos b) fx fy h = record { sfits = omega (arith, fx.sfits, div-le_self (suc a) b, negated (suc a / b)) }
quotient_fits w (negsuc a) (negsuc zero) fx fy h = let k = h refl in record { sfits = omega (arith, fx.sfits, div-one (suc a), pow-bits w) }
quotient_fits w (negsuc a) (negsuc (suc b)) fx fy h = record { sfits = omega (arith, fx.sfits, div-lt_self {n = suc a} {k = suc (suc b)} (omega arith) (omega arith)) }

-- the test for zero fails elsewhere
not_zero : (b : ℕ) → (b ≡ 0 → ⊥) → (b == 0) ≡ false
not_zero b h = grind (arith, nat_tests)

-- a number of the signed type is below half the range
fits_below : (w : Width) (q : ℤ) → SFits w q → int_lt q (pos (2 ^ hbits w)) ≡ true
fits_below w (pos n) f = lt-ltb n (2 ^ hbits w) f.sfits
fits_below w (negsuc n) f = refl

-- a quotient that fits is one of N bits
from_quotient_is : (w : Width) (q : ℤ) → SFits w q → from_quotient (bits w) q ≡ Ok (of_z w q)
unfolding from_quotient
from_quotient_is w q f = rw (hbits_is w, fits_below w q f, from_signed_is w q) refl

-- the quotient, where it fits
pub idiv_s_is : (w : Width) (a b : ℕ) → a < 2 ^ bits w → b < 2 ^ bits w → (b ≡ 0 → ⊥) → SFits w (int_div (to_z w a) (to_z w b)) → idiv_s (bits w) a b ≡ Ok (of_z w (int_div (to_z w a) (to_z w b)))
unfolding idiv_s
idiv_s_is w a b p q h f = rw (not_zero b h, signed_is w a p, signed_is w b q) (from_quotient_is w (int_div (to_z w a) (to_z w b)) f)

-- the remainder
pub irem_s_is : (w : Width) (a b : ℕ) → a < 2 ^ bits w → b < 2 ^ bits w → (b ≡ 0 → ⊥) → irem_s (bits w) a b ≡ Ok (of_z w (int_rem (to_z w a) (to_z w b)))
unfolding irem_s
irem_s_is w a b p q h = rw (not_zero b h, signed_is w a p, signed_is w b q, from_signed_is w (int_rem (to_z w a) (to_z w b))) refl

-- the least number by -1, whose quotient is too large
pub idiv_s_overflows : (w : Width) → idiv_s (bits w) (2 ^ hbits w) (2 ^ bits w - 1) ≡ Err IntegerOverflow
unfolding idiv_s from_quotient signed
idiv_s_overflows w8 = refl
idiv_s_overflows w16 = refl
idiv_s_overflows w32 = refl
idiv_s_overflows w64 = refl
idiv_s_overflows w128 = refl

-- the quotient of any other operands fits
pub division_fits : (w : Width) (a b : ℕ) → a < 2 ^ bits w → b < 2 ^ bits w → (b ≡ 2 ^ bits w - 1 → a ≡ 2 ^ hbits w → ⊥) → SFits w (int_div (to_z w a) (to_z w b))
division_fits w a b p q h =
    quotient_fits w (to_z w a) (to_z w b) (sfits_to_z (record { fits = p })) (sfits_to_z (record { fits = q }))
    (λ e d. h (sym (of_z-to_z w b q) ∙ e) (sym (of_z-to_z w a p) ∙ d))

-- the traps
pub idiv_s_by_zero : (N a b : ℕ) → b ≡ 0 → idiv_s N a b ≡ Err DivideByZero
unfolding idiv_s
idiv_s_by_zero N a b e = rw e refl

pub irem_s_by_zero : (N a b : ℕ) → b ≡ 0 → irem_s N a b ≡ Err DivideByZero
unfolding irem_s
irem_s_by_zero N a b e = rw e refl

pub idiv_s_traps : (w : Width) (a b : ℕ) → a ≡ 2 ^ hbits w → b ≡ 2 ^ bits w - 1 → idiv_s (bits w) a b ≡ Err IntegerOverflow
idiv_s_traps w a b d e = ap₂ (idiv_s (bits w)) d e ∙ idiv_s_overflows w

-- what the code computes of any other operands
pub idiv_s_code : (w : Width) (a b : ℕ) → a < 2 ^ bits w → b < 2 ^ bits w → (b ≡ 0 → ⊥) → (b ≡ 2 ^ bits w - 1 → a ≡ 2 ^ hbits w → ⊥)
    → idiv_s (bits w) a b ≡ Ok (of_z w (to_z w (of_z w (int_div (to_z w a) (to_z w b)))))
idiv_s_code w a b p q h k =
    let fits : SFits w (int_div (to_z w a) (to_z w b)) = division_fits w a b p q k in
    idiv_s_is w a b p q h fits ∙ ap (λ (z : ℤ). Ok (of_z w z)) (sym (to_z-of_z w (int_div (to_z w a) (to_z w b)) fits))
