-- How bytes spell a number (WebAssembly Core 1.0, 5.2.2).
use Rattle.std.specs.Prelude.{◌≡◌, ℕ, ◌+◌, ◌-◌, ◌^◌, ◌<◌, ◌≤◌, ◌⊎◌, List, [], ◌∷◌, ℤ, pos, ◌+ℤ◌, ◌-ℤ◌, ◌*ℤ◌}

-- whether a number is spelled with a sign
pub data Sign : Type 0 where
  unsigned : Sign
  signed : Sign

-- The last byte of a number of so many bits, and what it stands for. With a sign, 64 to 127 stand
-- for -64 to -1.
abbrev pub IsLast : Sign → ℕ → ℕ → ℤ → Type 0
IsLast unsigned bits b v = (b < 128) × (b < 2 ^ bits) × (v ≡ pos b)
IsLast signed bits b v =
    ((b < 64) × (b < 2 ^ (bits - 1)) × (v ≡ pos b))
    ⊎ ((64 ≤ b) × (b < 128) × (128 ≤ b + 2 ^ (bits - 1)) × (v ≡ pos b -ℤ pos 128))

-- The bytes are a spelling of the number v of so many bits, and then the rest. A byte from 128 on
-- has the low seven bits, and the bytes after it spell the high ones, as a number of seven bits
-- less.
unfoldable pub Spells : Sign → ℕ → List ℕ → ℤ → List ℕ → Type 0
Spells s bits [] v rest = ⊥
Spells s bits (b ∷ bytes) v rest =
    (IsLast s bits b v × (bytes ≡ rest))
    ⊎ ((128 ≤ b) × (b < 256) × (7 < bits) × (high : ℤ) × (v ≡ pos 128 *ℤ high +ℤ pos (b - 128)) × Spells s (bits - 7) bytes high rest)
