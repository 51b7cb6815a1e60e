-- What the functions of `int32`, `int64` and `convert` rest on, at their widths: each operation as
-- std's contracts give it.
use Rattle.std.proofs.Common.{◌≡◌, ◌≢◌, ℕ, ◌%◌, ◌^◌, ◌<◌, ℤ, Ok, Err, int_div, int_rem, lit<, to_z, of_z, w8, w16, w32, w64}
use Rattle.std.proofs.lemmas.Int.{to_z-of_z}
use Rattle.std.specs.Int.{from_bool, rotate_left, rotate_right}
use lib.Signed.{mag, lt_z, le_z, shr_z}
use Rattle.wnum.specs.Integer.{idiv_s, irem_s, ishr_s, irotl, irotr, ilt_s, igt_s, ile_s, ige_s}
use Rattle.wnum.specs.Conversion.{extend_s, iextend_s}
use Rattle.wnum.specs.declared.trap.Trap.TheVariants.{IntegerOverflow}
use Rattle.wnum.proofs.Arithmetic.{iadd_is, isub_is, imul_is, idiv_u_is, idiv_u_by_zero, irem_u_is, irem_u_by_zero, ieqz_is, ieq_is, ine_is, ilt_u_is, igt_u_is, ile_u_is, ige_u_is, wrap_is, extend_u_is}
use Rattle.wnum.proofs.Shifts.{ishl_is, ishr_u_is, irotl_is, irotr_is}
use Rattle.wnum.proofs.Bitwise.{iand_is, ior_is, ixor_is}
use Rattle.wnum.proofs.Counts.{iclz_is, ictz_is, ipopcnt_is}
use Rattle.wnum.proofs.Signs.{ishr_s_is, ilt_s_is, igt_s_is, ile_s_is, ige_s_is, extend_s_is, iextend_s_is}
use Rattle.wnum.proofs.Quotients.{idiv_s_traps, idiv_s_code, idiv_s_by_zero, irem_s_is, irem_s_by_zero}

pub ruleset unsigned_operations = (iadd_is, isub_is, imul_is, idiv_u_is, idiv_u_by_zero, irem_u_is, irem_u_by_zero, ieqz_is, ieq_is, ine_is, ilt_u_is, igt_u_is, ile_u_is, ige_u_is, ishl_is, ishr_u_is, iand_is, ior_is, ixor_is, iclz_is, ictz_is, ipopcnt_is)

-- ---- i32

-- a number of the code's signed type, which went to its bits and is read again
pub back_32 : (z : ℤ) → mag z < 2 ^ 31 → to_z w32 (of_z w32 z) ≡ z
back_32 z h = to_z-of_z w32 z (record { sfits = h })

-- each operation at this width, as the code's own instruction gives it
pub irotl_32 : (a b : ℕ) → a < 2 ^ 32 → irotl 32 a b ≡ rotate_left w32 a (b % 32)
irotl_32 a b p = irotl_is w32 a b (lit< tt) p

pub irotr_32 : (a b : ℕ) → a < 2 ^ 32 → irotr 32 a b ≡ rotate_right w32 a (b % 32)
irotr_32 a b p = irotr_is w32 a b (lit< tt) p

pub ishr_s_32 : (a b : ℕ) → a < 2 ^ 32 → ishr_s 32 a b ≡ of_z w32 (shr_z (to_z w32 a) (2 ^ (b % 32)))
ishr_s_32 a b p = ishr_s_is w32 a b p

pub ilt_s_32 : (a b : ℕ) → a < 2 ^ 32 → b < 2 ^ 32 → ilt_s 32 a b ≡ from_bool (lt_z (to_z w32 a) (to_z w32 b))
ilt_s_32 a b p q = ilt_s_is w32 a b p q

pub igt_s_32 : (a b : ℕ) → a < 2 ^ 32 → b < 2 ^ 32 → igt_s 32 a b ≡ from_bool (lt_z (to_z w32 b) (to_z w32 a))
igt_s_32 a b p q = igt_s_is w32 a b p q

pub ile_s_32 : (a b : ℕ) → a < 2 ^ 32 → b < 2 ^ 32 → ile_s 32 a b ≡ from_bool (le_z (to_z w32 a) (to_z w32 b))
ile_s_32 a b p q = ile_s_is w32 a b p q

pub ige_s_32 : (a b : ℕ) → a < 2 ^ 32 → b < 2 ^ 32 → ige_s 32 a b ≡ from_bool (le_z (to_z w32 b) (to_z w32 a))
ige_s_32 a b p q = ige_s_is w32 a b p q

pub irem_s_32 : (a b : ℕ) → a < 2 ^ 32 → b < 2 ^ 32 → b ≢ 0 → irem_s 32 a b ≡ Ok (of_z w32 (int_rem (to_z w32 a) (to_z w32 b)))
irem_s_32 a b p q h = irem_s_is w32 a b p q h

-- the least number by -1 traps
pub idiv_s_least_32 : (a b : ℕ) → a ≡ 2147483648 → b ≡ 4294967295 → idiv_s 32 a b ≡ Err IntegerOverflow
idiv_s_least_32 a b d e = idiv_s_traps w32 a b d e

-- any other dividend has the quotient that the code computes
pub idiv_s_other_32 : (a b : ℕ) → a < 2 ^ 32 → b < 2 ^ 32 → b ≢ 0 → a ≢ 2147483648 → idiv_s 32 a b ≡ Ok (of_z w32 (to_z w32 (of_z w32 (int_div (to_z w32 a) (to_z w32 b)))))
idiv_s_other_32 a b p q h d = idiv_s_code w32 a b p q h (λ f e. d e)

-- so has any dividend by another divisor
pub idiv_s_by_other_32 : (a b : ℕ) → a < 2 ^ 32 → b < 2 ^ 32 → b ≢ 0 → b ≢ 4294967295 → idiv_s 32 a b ≡ Ok (of_z w32 (to_z w32 (of_z w32 (int_div (to_z w32 a) (to_z w32 b)))))
idiv_s_by_other_32 a b p q h d = idiv_s_code w32 a b p q h (λ f e. d f)

-- sign extension from 8 and 16 bits
pub iextend_s_8_32 : (a : ℕ) → iextend_s 8 32 a ≡ of_z w32 (to_z w8 (a % 256))
iextend_s_8_32 a = iextend_s_is w8 w32 a

pub iextend_s_16_32 : (a : ℕ) → iextend_s 16 32 a ≡ of_z w32 (to_z w16 (a % 65536))
iextend_s_16_32 a = iextend_s_is w16 w32 a

pub ruleset operations_32 = (unsigned_operations, back_32, irotl_32, irotr_32, ishr_s_32, ilt_s_32, igt_s_32, ile_s_32, ige_s_32, irem_s_32, irem_s_by_zero, idiv_s_least_32, idiv_s_other_32, idiv_s_by_other_32, idiv_s_by_zero, iextend_s_8_32, iextend_s_16_32)

-- ---- i64

-- a number of the code's signed type, which went to its bits and is read again
pub back_64 : (z : ℤ) → mag z < 2 ^ 63 → to_z w64 (of_z w64 z) ≡ z
back_64 z h = to_z-of_z w64 z (record { sfits = h })

-- each operation at this width, as the code's own instruction gives it
pub irotl_64 : (a b : ℕ) → a < 2 ^ 64 → irotl 64 a b ≡ rotate_left w64 a (b % 64)
irotl_64 a b p = irotl_is w64 a b (lit< tt) p

pub irotr_64 : (a b : ℕ) → a < 2 ^ 64 → irotr 64 a b ≡ rotate_right w64 a (b % 64)
irotr_64 a b p = irotr_is w64 a b (lit< tt) p

pub ishr_s_64 : (a b : ℕ) → a < 2 ^ 64 → ishr_s 64 a b ≡ of_z w64 (shr_z (to_z w64 a) (2 ^ (b % 64)))
ishr_s_64 a b p = ishr_s_is w64 a b p

pub ilt_s_64 : (a b : ℕ) → a < 2 ^ 64 → b < 2 ^ 64 → ilt_s 64 a b ≡ from_bool (lt_z (to_z w64 a) (to_z w64 b))
ilt_s_64 a b p q = ilt_s_is w64 a b p q

pub igt_s_64 : (a b : ℕ) → a < 2 ^ 64 → b < 2 ^ 64 → igt_s 64 a b ≡ from_bool (lt_z (to_z w64 b) (to_z w64 a))
igt_s_64 a b p q = igt_s_is w64 a b p q

pub ile_s_64 : (a b : ℕ) → a < 2 ^ 64 → b < 2 ^ 64 → ile_s 64 a b ≡ from_bool (le_z (to_z w64 a) (to_z w64 b))
ile_s_64 a b p q = ile_s_is w64 a b p q

pub ige_s_64 : (a b : ℕ) → a < 2 ^ 64 → b < 2 ^ 64 → ige_s 64 a b ≡ from_bool (le_z (to_z w64 b) (to_z w64 a))
ige_s_64 a b p q = ige_s_is w64 a b p q

pub irem_s_64 : (a b : ℕ) → a < 2 ^ 64 → b < 2 ^ 64 → b ≢ 0 → irem_s 64 a b ≡ Ok (of_z w64 (int_rem (to_z w64 a) (to_z w64 b)))
irem_s_64 a b p q h = irem_s_is w64 a b p q h

-- the least number by -1 traps
pub idiv_s_least_64 : (a b : ℕ) → a ≡ 9223372036854775808 → b ≡ 18446744073709551615 → idiv_s 64 a b ≡ Err IntegerOverflow
idiv_s_least_64 a b d e = idiv_s_traps w64 a b d e

-- any other dividend has the quotient that the code computes
pub idiv_s_other_64 : (a b : ℕ) → a < 2 ^ 64 → b < 2 ^ 64 → b ≢ 0 → a ≢ 9223372036854775808 → idiv_s 64 a b ≡ Ok (of_z w64 (to_z w64 (of_z w64 (int_div (to_z w64 a) (to_z w64 b)))))
idiv_s_other_64 a b p q h d = idiv_s_code w64 a b p q h (λ f e. d e)

-- so has any dividend by another divisor
pub idiv_s_by_other_64 : (a b : ℕ) → a < 2 ^ 64 → b < 2 ^ 64 → b ≢ 0 → b ≢ 18446744073709551615 → idiv_s 64 a b ≡ Ok (of_z w64 (to_z w64 (of_z w64 (int_div (to_z w64 a) (to_z w64 b)))))
idiv_s_by_other_64 a b p q h d = idiv_s_code w64 a b p q h (λ f e. d f)

-- sign extension from 8, 16 and 32 bits
pub iextend_s_8_64 : (a : ℕ) → iextend_s 8 64 a ≡ of_z w64 (to_z w8 (a % 256))
iextend_s_8_64 a = iextend_s_is w8 w64 a

pub iextend_s_16_64 : (a : ℕ) → iextend_s 16 64 a ≡ of_z w64 (to_z w16 (a % 65536))
iextend_s_16_64 a = iextend_s_is w16 w64 a

pub iextend_s_32_64 : (a : ℕ) → iextend_s 32 64 a ≡ of_z w64 (to_z w32 (a % 4294967296))
iextend_s_32_64 a = iextend_s_is w32 w64 a

pub ruleset operations_64 = (unsigned_operations, back_64, irotl_64, irotr_64, ishr_s_64, ilt_s_64, igt_s_64, ile_s_64, ige_s_64, irem_s_64, irem_s_by_zero, idiv_s_least_64, idiv_s_other_64, idiv_s_by_other_64, idiv_s_by_zero, iextend_s_8_64, iextend_s_16_64, iextend_s_32_64)

-- ---- conversions

-- the conversion that keeps the sign, at its widths
pub extend_s_32_64 : (a : ℕ) → a < 2 ^ 32 → extend_s 32 64 a ≡ of_z w64 (to_z w32 a)
extend_s_32_64 a p = extend_s_is w32 w64 a p

pub ruleset conversions = (wrap_is, extend_u_is, extend_s_32_64, back_32, back_64)
