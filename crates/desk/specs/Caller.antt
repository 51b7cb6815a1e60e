-- What contracts see of a pass as its calls tell it, and of a desk with one owner.
use Rattle.std.specs.Prelude.{ℕ, ◌≤◌, ⊤}
use Rattle.quant.specs.declared.limits.TheConstants.{LATEST_MOMENT}
use Rattle.desk.specs.declared.step.Step.{Step}
use Rattle.desk.specs.declared.step.Step.TheVariants.{Tick}

-- a pass's number among those of its desk, from 0, and how many of its calls were answered
pub record Caller : Type 0 where
  pub number : ℕ
  pub calls : ℕ

-- a moment that a step tells is one that clocks have
abbrev pub IsTimely : Step → Type 0
IsTimely (Tick now) = now.0 ≤ LATEST_MOMENT
IsTimely e = ⊤
