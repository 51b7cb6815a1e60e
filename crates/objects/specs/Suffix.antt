-- What stands behind the digits of a quantity (the Kubernetes API reference, "Quantity").
use Rattle.std.specs.Prelude.{ℕ, Bool, true, false, ◌&&◌, ◌||◌, ◌==◌, nat_le, if◌then◌else◌, List, [], length, take, drop, codes, bytes_eq, Result, Ok, Err}
use Rattle.std.specs.List.{list_all, prefix_len}
use Rattle.quant.specs.Amount.{is_digit, number}
use Rattle.objects.specs.declared.fault.QuantityFault.{QuantityFault}
use Rattle.objects.specs.declared.fault.QuantityFault.TheVariants.{NotAQuantity, FarExponent}
use Rattle.objects.specs.declared.suffix.Suffix.{Suffix}

-- 10 to this power, or one over it
abbrev pub power_of_ten : (below_one : Bool) → ℕ → Suffix
power_of_ten true n = record { tens = 0; tenths = n; twos = 0 }
power_of_ten false n = record { tens = n; tenths = 0; twos = 0 }

-- 2 to this power
abbrev pub power_of_two : ℕ → Suffix
power_of_two n = record { tens = 0; tenths = 0; twos = n }

-- whether a text begins with a sign, and what stands behind one
abbrev pub has_minus : List ℕ → Bool
has_minus text = bytes_eq (take 1 text) (codes "-")

abbrev pub after_sign : List ℕ → List ℕ
after_sign text = if has_minus text || bytes_eq (take 1 text) (codes "+") then drop 1 text else text

-- digits but for the zeros in front of them
abbrev pub is_0 : (digit : ℕ) → Bool
is_0 digit = digit == 48

abbrev pub behind_zeros : List ℕ → List ℕ
behind_zeros digits = drop (prefix_len is_0 digits) digits

-- the power of ten that the digits of an exponent tell: there is a digit, and there are two at
-- most, of which zeros in front are none
abbrev pub exponent_number : (below_one : Bool) → List ℕ → Result Suffix QuantityFault
exponent_number below_one digits = if nat_le (length digits) 2 then Ok (power_of_ten below_one (number digits)) else Err FarExponent

abbrev pub exponent_digits : (below_one : Bool) → List ℕ → Result Suffix QuantityFault
exponent_digits below_one digits =
    if nat_le 1 (length digits) && list_all is_digit digits then exponent_number below_one (behind_zeros digits) else Err NotAQuantity

-- the power of ten that stands behind `e` or `E`: a sign or none, and digits
abbrev pub exponent : List ℕ → Result Suffix QuantityFault
exponent text = exponent_digits (has_minus text) (after_sign text)

-- the suffix that a text is: a power of 10 by its letter, a power of 2 by its two letters, or an
-- exponent
unfoldable pub suffix_named : List ℕ → Result Suffix QuantityFault
suffix_named text =
    if bytes_eq text (codes "n") then Ok (power_of_ten true 9)
    else if bytes_eq text (codes "u") then Ok (power_of_ten true 6)
    else if bytes_eq text (codes "m") then Ok (power_of_ten true 3)
    else if bytes_eq text [] then Ok (power_of_ten false 0)
    else if bytes_eq text (codes "k") then Ok (power_of_ten false 3)
    else if bytes_eq text (codes "M") then Ok (power_of_ten false 6)
    else if bytes_eq text (codes "G") then Ok (power_of_ten false 9)
    else if bytes_eq text (codes "T") then Ok (power_of_ten false 12)
    else if bytes_eq text (codes "P") then Ok (power_of_ten false 15)
    else if bytes_eq text (codes "E") then Ok (power_of_ten false 18)
    else if bytes_eq text (codes "Ki") then Ok (power_of_two 10)
    else if bytes_eq text (codes "Mi") then Ok (power_of_two 20)
    else if bytes_eq text (codes "Gi") then Ok (power_of_two 30)
    else if bytes_eq text (codes "Ti") then Ok (power_of_two 40)
    else if bytes_eq text (codes "Pi") then Ok (power_of_two 50)
    else if bytes_eq text (codes "Ei") then Ok (power_of_two 60)
    else if bytes_eq (take 1 text) (codes "e") || bytes_eq (take 1 text) (codes "E") then exponent (drop 1 text)
    else Err NotAQuantity
