-- The conversions between widths (WebAssembly Core 1.0, 4.3.4), from M bits to N, and sign
-- extension in N bits (Core 2.0, 4.3.2).
use Rattle.std.specs.Prelude.{ℕ, ◌%◌, ◌^◌}
use Rattle.wnum.specs.Representation.{signed, from_signed}

-- what is left of a number in N bits
unfoldable pub wrap : ℕ → ℕ → ℕ → ℕ
wrap M N i = i % 2 ^ N

-- the same number
unfoldable pub extend_u : ℕ → ℕ → ℕ → ℕ
extend_u M N i = i

-- the same signed number
unfoldable pub extend_s : ℕ → ℕ → ℕ → ℕ
extend_s M N i = from_signed N (signed M i)

-- "iextendM_s" of N bits: the lowest M bits alone, and their signed number in N bits
unfoldable pub iextend_s : ℕ → ℕ → ℕ → ℕ
iextend_s M N i = extend_s M N (wrap N M i)
