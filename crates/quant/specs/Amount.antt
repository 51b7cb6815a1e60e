-- Which amount of CPU or memory a text spells.
use Rattle.std.specs.Prelude.{ℕ, ◌+◌, ◌-◌, ◌*◌, ◌^◌, Bool, ◌&&◌, nat_le, if◌then◌else◌, List, [], ◌∷◌, length, drop, take, take_while, codes, bytes_eq, Option, Some, None, Result, Ok, Err, option_map}
use Rattle.std.specs.List.{list_all, prefix_len}
use Rattle.quant.specs.Name.{is_between}
use Rattle.quant.specs.declared.amount.Cpu.{Cpu}
use Rattle.quant.specs.declared.amount.Bytes.{Bytes}
use Rattle.quant.specs.declared.fault.QuantFault.{QuantFault}
use Rattle.quant.specs.declared.fault.QuantFault.TheVariants.{BadQuantity, TooLarge}

-- an ASCII digit
abbrev pub is_digit : ℕ → Bool
is_digit b = is_between 48 57 b

-- one digit or more, and no more than `most`
abbrev pub is_digits : ℕ → List ℕ → Bool
is_digits most ds = nat_le 1 (length ds) && nat_le (length ds) most && list_all is_digit ds

-- the number that digits spell: each digit counts as many times as there are numbers of the digits
-- behind it
abbrev pub number : List ℕ → ℕ
number [] = 0
number (d ∷ ds) = (d - 48) * 10 ^ length ds + number ds

-- the digits in front of a text
abbrev pub leading_digits : List ℕ → List ℕ
leading_digits text = take_while is_digit text

-- what stands behind the digits in front
abbrev pub after_digits : List ℕ → List ℕ
after_digits text = drop (prefix_len is_digit text) text

-- the thousandths that the digits behind a decimal point spell: `5` is 500, `25` is 250, `125` is
-- 125
abbrev pub thousandths : List ℕ → ℕ
thousandths ds = number ds * 10 ^ (3 - length ds)

-- the thousandths of a core that whole cores and what stands behind them spell:
-- nothing more, a suffix `m` that makes them thousandths, or a decimal point and 1 to 3 digits
abbrev pub cpu_with : ℕ → List ℕ → Option ℕ
cpu_with n rest =
    if bytes_eq rest [] then Some (n * 1000)
    else if bytes_eq rest (codes "m") then Some n
    else if bytes_eq (take 1 rest) (codes ".") && is_digits 3 (drop 1 rest) then Some (n * 1000 + thousandths (drop 1 rest))
    else None

-- the thousandths of a core that a text spells: 1 to 15 digits, and what `cpu_with` reads behind
-- them
abbrev pub cpu_spelled : List ℕ → Option ℕ
cpu_spelled text =
    if is_digits 15 (leading_digits text) then cpu_with (number (leading_digits text)) (after_digits text) else None

-- how many bytes the unit with this suffix is: powers of 1,000, or with an `i` of 1,024
abbrev pub unit_of : List ℕ → Option ℕ
unit_of suffix =
    if bytes_eq suffix [] then Some 1
    else if bytes_eq suffix (codes "k") then Some (1000 ^ 1)
    else if bytes_eq suffix (codes "M") then Some (1000 ^ 2)
    else if bytes_eq suffix (codes "G") then Some (1000 ^ 3)
    else if bytes_eq suffix (codes "T") then Some (1000 ^ 4)
    else if bytes_eq suffix (codes "Ki") then Some (1024 ^ 1)
    else if bytes_eq suffix (codes "Mi") then Some (1024 ^ 2)
    else if bytes_eq suffix (codes "Gi") then Some (1024 ^ 3)
    else if bytes_eq suffix (codes "Ti") then Some (1024 ^ 4)
    else None

-- the bytes of memory that a text spells: 1 to 15 digits, and a unit's suffix
abbrev pub bytes_spelled : List ℕ → Option ℕ
bytes_spelled text =
    if is_digits 15 (leading_digits text)
    then option_map (λ unit. number (leading_digits text) * unit) (unit_of (after_digits text))
    else None

-- what was spelled, as an amount, where it is at most `most`: that nothing is spelled is the first
-- fault
abbrev pub at_most : {A : Type 0} → (ℕ → A) → ℕ → Option ℕ → Result A QuantFault
at_most amount most None = Err BadQuantity
at_most amount most (Some n) = if nat_le n most then Ok (amount n) else Err TooLarge

-- the amount of CPU that a text spells, up to 2^30 thousandths of a core
unfoldable pub cpu_read : List ℕ → Result Cpu QuantFault
cpu_read text = at_most (λ n. record { 0 = n }) (2 ^ 30) (cpu_spelled text)

-- the amount of memory that a text spells, up to 2^44 bytes
unfoldable pub bytes_read : List ℕ → Result Bytes QuantFault
bytes_read text = at_most (λ n. record { 0 = n }) (2 ^ 44) (bytes_spelled text)
