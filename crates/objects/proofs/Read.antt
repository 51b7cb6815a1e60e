-- What is read of a quantity's parts: its digits, and what stands behind them.
use Rattle.std.proofs.Common.{◌≡◌, ℕ, Bool, true, false, ◌&&◌, ◌==◌, not, nat_le, List, [], ◌∷◌, ◌++◌, length, Result, Ok, Err, IsErrAnd, if◌then◌else◌, true≢false, refl, ap, sym, ◌∙◌, arith}
use Rattle.std.proofs.lemmas.Bool.Decides.{nat_tests}
use Rattle.objects.specs.declared.fault.QuantityFault.{QuantityFault}
use Rattle.objects.specs.declared.fault.QuantityFault.TheVariants.{NotAQuantity, Negative}
use Rattle.objects.specs.declared.suffix.Suffix.{Suffix}
use Rattle.objects.specs.declared.quantity.Rounding.{Rounding}
use Rattle.objects.specs.Suffix.{has_minus, after_sign, suffix_named}
use Rattle.objects.specs.Ratio.{rounded}
use Rattle.objects.specs.Quantity.{◌>>=◌, is_zero, of_nothing, fraction_digits, after_fraction, worth, signed, told_within, quantity}
use Rattle.quant.specs.Amount.{leading_digits, after_digits}

-- what the parts come to, of whose digits each is in front of the point or behind it
abbrev by_parts : (whole fraction : List ℕ) → Result Suffix QuantityFault → (Suffix → Result ℕ QuantityFault) → Result ℕ QuantityFault
by_parts whole fraction suffix told =
    if nat_le 1 (length (whole ++ fraction)) then of_nothing (is_zero (whole ++ fraction)) suffix >>= told else Err NotAQuantity

pub no_digits : (whole fraction : List ℕ) (suffix : Result Suffix QuantityFault) (told : Suffix → Result ℕ QuantityFault)
    → true ≡ (length whole == 0) → true ≡ (length fraction == 0) → Err NotAQuantity ≡ by_parts whole fraction suffix told
no_digits [] [] suffix told no_whole no_fraction = refl
no_digits [] (x ∷ xs) suffix told no_whole no_fraction = absurd (grind (arith, nat_tests))
no_digits (x ∷ xs) fraction suffix told no_whole no_fraction = absurd (grind (arith, nat_tests))

pub in_front : (whole fraction : List ℕ) → false ≡ (length whole == 0) → nat_le 1 (length (whole ++ fraction)) ≡ true
in_front [] fraction some = absurd (true≢false (sym some))
in_front (x ∷ xs) fraction some = grind (arith, nat_tests)

pub behind : (whole fraction : List ℕ) → false ≡ (length fraction == 0) → nat_le 1 (length (whole ++ fraction)) ≡ true
behind [] [] some = absurd (true≢false (sym some))
behind [] (x ∷ xs) some = grind (arith, nat_tests)
behind (x ∷ xs) fraction some = grind (arith, nat_tests)

by_first : (first a b both : Bool) → both ≡ (a && b) → (first && both) ≡ ((first && a) && b)
by_first true a b both e = e
by_first false a b both e = refl

zeros_both : (whole fraction : List ℕ) → is_zero (whole ++ fraction) ≡ (is_zero whole && is_zero fraction)
zeros_both [] fraction = refl
zeros_both (x ∷ xs) fraction = by_first (x == 48) (is_zero xs) (is_zero fraction) (is_zero (xs ++ fraction)) (zeros_both xs fraction)

pub both_zero : (whole fraction : List ℕ) (first second zero : Bool) → first ≡ is_zero whole → first ≡ true → second ≡ is_zero fraction → zero ≡ second
    → zero ≡ is_zero (whole ++ fraction)
both_zero whole fraction first second zero f t g z = z ∙ g ∙ ap (λ b. b && is_zero fraction) (sym t ∙ f) ∙ sym (zeros_both whole fraction)

pub not_both_zero : (whole fraction : List ℕ) (first zero : Bool) → first ≡ is_zero whole → first ≡ false → zero ≡ first → zero ≡ is_zero (whole ++ fraction)
not_both_zero whole fraction first zero f t z = z ∙ t ∙ ap (λ b. b && is_zero fraction) (sym t ∙ f) ∙ sym (zeros_both whole fraction)

-- the quantity that a text spells, by its parts
pub quantity_by : (rounding : Rounding) (places most : ℕ) (text : List ℕ) (minus : Bool) (unsigned whole rest fraction behind : List ℕ)
    (suffix : Result Suffix QuantityFault) → minus ≡ has_minus text → unsigned ≡ after_sign text → whole ≡ leading_digits unsigned
    → rest ≡ after_digits unsigned → fraction ≡ fraction_digits rest → behind ≡ after_fraction rest → suffix ≡ suffix_named behind
    → quantity rounding places most text ≡ by_parts whole fraction suffix (signed rounding places most minus whole fraction)
unfolding quantity
quantity_by rounding places most text minus unsigned whole rest fraction behind suffix m u w r f b s = rw (s, b, f, r, w, u, m) refl

pub refused_by : (whole fraction : List ℕ) (suffix read : Result Suffix QuantityFault) (told : Suffix → Result ℕ QuantityFault) (zero : Bool) (e : QuantityFault)
    (result : Result ℕ QuantityFault) → nat_le 1 (length (whole ++ fraction)) ≡ true → zero ≡ is_zero (whole ++ fraction) → read ≡ of_nothing zero suffix
    → read ≡ Err e → IsErrAnd result (λ d. d ≡ e) → result ≡ by_parts whole fraction suffix told
refused_by whole fraction suffix read told zero e (Ok x) some z r is err = absurd err
refused_by whole fraction suffix read told zero e (Err d) some z r is err = rw (some, ← z, ← r, is) (ap Err err)

pub negative_by : (rounding : Rounding) (places most : ℕ) (whole fraction : List ℕ) (suffix read : Result Suffix QuantityFault) (zero minus : Bool) (s : Suffix)
    → nat_le 1 (length (whole ++ fraction)) ≡ true → zero ≡ is_zero (whole ++ fraction) → read ≡ of_nothing zero suffix
    → read ≡ Ok s → minus ≡ true → zero ≡ false → Err Negative ≡ by_parts whole fraction suffix (signed rounding places most minus whole fraction)
negative_by rounding places most whole fraction suffix read zero minus s some z r is m digits = rw (some, ← z, ← r, is, ← z, m, digits) refl

pub told_by : (rounding : Rounding) (places most : ℕ) (whole fraction : List ℕ) (suffix read : Result Suffix QuantityFault) (zero minus : Bool) (s : Suffix)
    → nat_le 1 (length (whole ++ fraction)) ≡ true → zero ≡ is_zero (whole ++ fraction) → read ≡ of_nothing zero suffix
    → read ≡ Ok s → (minus && not zero) ≡ false
    → told_within rounding most (rounded rounding (worth places whole fraction s)) ≡ by_parts whole fraction suffix (signed rounding places most minus whole fraction)
told_by rounding places most whole fraction suffix read zero minus s some z r is above = rw (some, ← z, ← r, is, ← z, above) refl
