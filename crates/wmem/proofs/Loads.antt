-- What a load makes of a number of fewer bits, as the code's own casts give it.
use Rattle.std.proofs.Common.{◌≡◌, ℕ, ◌^◌, ◌<◌, ℤ, to_z, of_z, w8, w16, w32, w64}
use Rattle.std.proofs.lemmas.Int.{to_z-of_z}
use lib.Signed.{mag}
use Rattle.wnum.specs.Conversion.{extend_s}
use Rattle.wnum.proofs.Signs.{extend_s_is}
use Rattle.wnum.proofs.Operations.{back_32, back_64}

-- a number of the code's signed type, which went to its bits and is read again
pub back_8 : (z : ℤ) → mag z < 2 ^ 7 → to_z w8 (of_z w8 z) ≡ z
back_8 z h = to_z-of_z w8 z (record { sfits = h })

pub back_16 : (z : ℤ) → mag z < 2 ^ 15 → to_z w16 (of_z w16 z) ≡ z
back_16 z h = to_z-of_z w16 z (record { sfits = h })

-- each extension that keeps the sign, at its widths
pub extend_s_8_32 : (a : ℕ) → a < 2 ^ 8 → extend_s 8 32 a ≡ of_z w32 (to_z w8 a)
extend_s_8_32 a p = extend_s_is w8 w32 a p

pub extend_s_16_32 : (a : ℕ) → a < 2 ^ 16 → extend_s 16 32 a ≡ of_z w32 (to_z w16 a)
extend_s_16_32 a p = extend_s_is w16 w32 a p

pub extend_s_8_64 : (a : ℕ) → a < 2 ^ 8 → extend_s 8 64 a ≡ of_z w64 (to_z w8 a)
extend_s_8_64 a p = extend_s_is w8 w64 a p

pub extend_s_16_64 : (a : ℕ) → a < 2 ^ 16 → extend_s 16 64 a ≡ of_z w64 (to_z w16 a)
extend_s_16_64 a p = extend_s_is w16 w64 a p

pub ruleset extensions = (extend_s_8_32, extend_s_16_32, extend_s_8_64, extend_s_16_64, back_8, back_16, back_32, back_64)
