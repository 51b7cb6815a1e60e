-- Amounts that are within others.
use Rattle.std.specs.Prelude.{◌≤◌}
use Rattle.quant.specs.declared.amount.Res.{Res}

-- each number of the first amount is at most that of the second
pub record IsWithin (a b : Res) : Type 0 where
  pub cpu : a.cpu.0 ≤ b.cpu.0
  pub mem : a.mem.0 ≤ b.mem.0
  pub pods : a.pods ≤ b.pods
