-- The numbers of a width.
use Rattle.std.specs.Prelude.{ℕ, ◌-◌, ◌^◌, ◌<◌, ℤ, pos, negsuc}
use Rattle.leb.specs.Number.{Sign, unsigned, signed}

-- the numbers of so many bits
abbrev pub InRange : Sign → ℕ → ℤ → Type 0
InRange unsigned bits (pos n) = n < 2 ^ bits
InRange unsigned bits (negsuc n) = ⊥
InRange signed bits (pos n) = n < 2 ^ (bits - 1)
InRange signed bits (negsuc n) = n < 2 ^ (bits - 1)
