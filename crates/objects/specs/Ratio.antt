-- Fractions, and the whole numbers beside them.
use Rattle.std.specs.Prelude.{ℕ, ◌+◌, ◌-◌, ◌/◌}
use Rattle.objects.specs.declared.quantity.Rounding.{Rounding}
use Rattle.objects.specs.declared.quantity.Rounding.TheVariants.{Up, Down}

-- a number over another, which isn't 0
pub record Ratio : Type 0 where
  pub over : ℕ
  pub under : ℕ

-- the least whole number that is no less than the fraction, or the greatest that is no more
abbrev pub rounded : Rounding → Ratio → ℕ
rounded Up ratio = (ratio.over + (ratio.under - 1)) / ratio.under
rounded Down ratio = ratio.over / ratio.under
