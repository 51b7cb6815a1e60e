-- Numbers as bytes, the lowest byte first (WebAssembly Core 1.0, 4.3.1, "Storage").
use Rattle.std.specs.Prelude.{ℕ, zero, suc, ◌+◌, ◌*◌, ◌/◌, ◌%◌, List, [], ◌∷◌}

-- the number that bytes stand for
abbrev pub number_in : List ℕ → ℕ
number_in [] = 0
number_in (byte ∷ rest) = byte + 256 * number_in rest

-- a number in so many bytes: what doesn't go into them is left out
abbrev pub bytes_of : ℕ → ℕ → List ℕ
bytes_of zero number = []
bytes_of (suc count) number = number % 256 ∷ bytes_of count (number / 256)
