-- How amounts are written, as a grammar: what `cpu_spelled` and `bytes_spelled` find is what it
-- derives.
use Rattle.std.specs.Prelude.{◌≡◌, ℕ, ◌+◌, ◌*◌, List, ◌++◌, codes, Some, IsTrue}
use Rattle.quant.specs.Amount.{is_digits, number, thousandths, unit_of}

-- the text is an amount of CPU of so many thousandths of a core
pub data SpellsCpu : List ℕ → ℕ → Type 0 where
  -- whole cores, as `4`
  cores : (d : List ℕ) → IsTrue (is_digits 15 d) → SpellsCpu d (number d * 1000)
  -- cores and a fraction, as `0.5`
  fraction : (d f : List ℕ) → IsTrue (is_digits 15 d) → IsTrue (is_digits 3 f)
      → SpellsCpu (d ++ (codes "." ++ f)) (number d * 1000 + thousandths f)
  -- thousandths, as `500m`
  thousandth : (d : List ℕ) → IsTrue (is_digits 15 d) → SpellsCpu (d ++ codes "m") (number d)

-- the text is an amount of memory of so many bytes: digits, and a unit's suffix
pub data SpellsBytes : List ℕ → ℕ → Type 0 where
  units : (d suffix : List ℕ) (unit : ℕ) → IsTrue (is_digits 15 d) → unit_of suffix ≡ Some unit
      → SpellsBytes (d ++ suffix) (number d * unit)
