-- Digits by their places.
use Rattle.std.specs.Prelude.{ℕ, ◌*◌, ◌-◌, ◌^◌, List, length, take, drop, slice_index_or}
use Rattle.quant.specs.Amount.{number}

-- the digit at a place, and 0 past the last
abbrev pub digit : List ℕ → ℕ → ℕ
digit digits place = slice_index_or digits place 48 - 48

-- the number that the first digits spell, with zeros behind them where there are no more
abbrev pub front : List ℕ → ℕ → ℕ
front digits places = number (take places digits) * 10 ^ (places - length digits)

-- the number that the last digits spell
abbrev pub back : List ℕ → ℕ → ℕ
back digits places = number (drop (length digits - places) digits)
