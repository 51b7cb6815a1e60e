-- How much a quantity is (the Kubernetes API reference, "Quantity"): a sign or none, digits with a
-- point among them or beside them or none, and a suffix.
use Rattle.std.specs.Prelude.{ℕ, ◌*◌, ◌^◌, min, Bool, true, false, ◌&&◌, not, ◌==◌, nat_le, if◌then◌else◌, List, [], ◌++◌, length, take, drop, codes, bytes_eq, Result, Ok, Err}
use Rattle.std.specs.List.{list_all}
use Rattle.quant.specs.Amount.{number, leading_digits, after_digits}
use Rattle.quant.specs.declared.limits.TheConstants.{MAX_PLACED}
use Rattle.objects.specs.declared.fault.QuantityFault.{QuantityFault}
use Rattle.objects.specs.declared.fault.QuantityFault.TheVariants.{NotAQuantity, FarExponent, Negative, TooLarge}
use Rattle.objects.specs.declared.quantity.Rounding.{Rounding}
use Rattle.objects.specs.declared.quantity.Rounding.TheVariants.{Up, Down}
use Rattle.objects.specs.declared.resource.Resource.{Resource}
use Rattle.objects.specs.declared.resource.Resource.TheVariants.{Cpu, Memory, Pods}
use Rattle.objects.specs.declared.suffix.Suffix.{Suffix}
use Rattle.objects.specs.Ratio.{Ratio, rounded}
use Rattle.objects.specs.Suffix.{has_minus, after_sign, power_of_ten, suffix_named}

-- one reading after another: the first fault ends both
infixl 10 ◌>>=◌
abbrev pub ◌>>=◌ : {A B E : Type 0} → Result A E → (A → Result B E) → Result B E
(Ok x) >>= f = f x
(Err e) >>= f = Err e

-- whether a decimal point stands in front
abbrev pub has_point : List ℕ → Bool
has_point text = bytes_eq (take 1 text) (codes ".")

-- the digits behind a decimal point in front, and what stands behind both
abbrev pub fraction_digits : List ℕ → List ℕ
fraction_digits text = if has_point text then leading_digits (drop 1 text) else []

abbrev pub after_fraction : List ℕ → List ℕ
after_fraction text = if has_point text then after_digits (drop 1 text) else text

-- no digit but zeros
abbrev pub is_zero : List ℕ → Bool
is_zero digits = list_all (λ digit. digit == 48) digits

-- what digits in front of a point and behind it are worth with a suffix, in thousandths where
-- `places` is 3 and in ones where it is 0
abbrev pub worth : (places : ℕ) → (whole fraction : List ℕ) → Suffix → Ratio
worth places whole fraction suffix = record {
  over = number (whole ++ fraction) * (10 ^ suffix.tens * 2 ^ suffix.twos) * 10 ^ places;
  under = 10 ^ length fraction * 10 ^ suffix.tenths;
}

-- an amount that is no more than it may be
abbrev pub at_most : (most : ℕ) → ℕ → Result ℕ QuantityFault
at_most most n = if nat_le n most then Ok n else Err TooLarge

-- of what is asked for no less may be told; of what is there less may be
abbrev pub told_within : Rounding → (most : ℕ) → ℕ → Result ℕ QuantityFault
told_within Up most n = at_most most n
told_within Down most n = Ok (min most n)

-- what the digits and the suffix of a quantity come to
abbrev pub signed : Rounding → (places most : ℕ) → (minus : Bool) → (whole fraction : List ℕ) → Suffix → Result ℕ QuantityFault
signed rounding places most minus whole fraction suffix =
    if minus && not (is_zero (whole ++ fraction)) then Err Negative
    else told_within rounding most (rounded rounding (worth places whole fraction suffix))

-- nothing is nothing, however far its exponent is
abbrev pub of_nothing : (is_nothing : Bool) → Result Suffix QuantityFault → Result Suffix QuantityFault
of_nothing true (Err FarExponent) = Ok (power_of_ten false 0)
of_nothing is_nothing suffix = suffix

-- what the parts of a quantity come to: a digit stands in front of the point or behind it
abbrev pub parts_amount : Rounding → (places most : ℕ) → (minus : Bool) → (whole rest : List ℕ) → Result ℕ QuantityFault
parts_amount rounding places most minus whole rest =
    if nat_le 1 (length (whole ++ fraction_digits rest))
    then of_nothing (is_zero (whole ++ fraction_digits rest)) (suffix_named (after_fraction rest)) >>= signed rounding places most minus whole (fraction_digits rest)
    else Err NotAQuantity

-- what a quantity comes to, rounded to so many decimal places, and no more than it may be: above
-- that it is refused where it is asked for, and is told as the most where it is there
unfoldable pub quantity : Rounding → (places most : ℕ) → List ℕ → Result ℕ QuantityFault
quantity rounding places most text =
    parts_amount rounding places most (has_minus text) (leading_digits (after_sign text)) (after_digits (after_sign text))

-- the field that tells a resource; how many decimal places its unit has in the one that the API
-- counts in, which are thousandths of a core, bytes and pods; and the most of it that a line can say
abbrev pub key_of : Resource → List ℕ
key_of Cpu = codes "cpu"
key_of Memory = codes "memory"
key_of Pods = codes "pods"

abbrev pub places : Resource → ℕ
places Cpu = 3
places Memory = 0
places Pods = 0

abbrev pub most : Resource → ℕ
most Cpu = 2 ^ 30
most Memory = 2 ^ 44
most Pods = MAX_PLACED
