-- What contracts see of a pool or a fleet.
use Rattle.std.specs.Prelude.{ℕ, List}
use Rattle.choose.specs.declared.decision.Verdict.{Verdict}

-- its kits in order, for how many verdicts it has room, and those of its last decision, in the
-- order of the nodes
pub record Team (Kit : Type 0) : Type 0 where
  pub kits : List Kit
  pub room : ℕ
  pub verdicts : List Verdict
