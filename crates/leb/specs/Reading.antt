-- Reading as a function on lists, a step between the code and the grammar.
use Rattle.std.specs.Prelude.{ℕ, suc, ◌+◌, ◌-◌, ◌*◌, ◌^◌, min, List, [], ◌∷◌, ℤ, pos, negsuc, nat_lt, nat_le, if◌then◌else◌, Result, Ok, Err}
use Rattle.leb.specs.Number.{Sign, unsigned, signed}
use Rattle.leb.specs.declared.LebFault.{LebFault}
use Rattle.leb.specs.declared.LebFault.TheVariants.{Truncated, TooLong, BadLastByte}

-- what a last byte stands for, of a number that has so many bits left
unfoldable pub last_at : Sign → ℕ → ℕ → Result ℤ LebFault
last_at unsigned bits b = if nat_lt b (2 ^ min bits 7) then Ok (pos b) else Err BadLastByte
last_at signed bits b =
    if nat_lt b (2 ^ min (bits - 1) 6) then Ok (pos b)
    else if nat_le (128 - 2 ^ min (bits - 1) 6) b then Ok (negsuc (127 - b)) else Err BadLastByte

-- a number, and the bytes after it
abbrev pub Found : Type 0
Found = ℤ × List ℕ

-- a number, before the bytes after it
abbrev pub before : List ℕ → Result ℤ LebFault → Result Found LebFault
before rest (Ok v) = Ok (v, rest)
before rest (Err e) = Err e

-- lower bits, below the weight, and a number for the higher ones
abbrev pub join : ℕ → ℕ → ℤ → ℤ
join low weight (pos high) = pos (low + weight * high)
join low weight (negsuc high) = negsuc (weight * suc high - suc low)

-- the same, where the higher ones are what is read
abbrev pub onto : ℕ → ℕ → Result Found LebFault → Result Found LebFault
onto low weight (Ok found) = Ok (join low weight found.0, found.1)
onto low weight (Err e) = Err e

-- what is read for a number of so many bits, and the bytes after it
unfoldable pub reading : Sign → ℕ → List ℕ → Result Found LebFault
reading s bits [] = Err Truncated
reading s bits (b ∷ bytes) =
    if nat_lt b 128 then before bytes (last_at s bits b)
    else if nat_le bits 7 then Err TooLong
    else onto (b - 128) 128 (reading s (bits - 7) bytes)
