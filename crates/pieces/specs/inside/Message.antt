-- What a pool and its workers tell each other.
use Rattle.std.specs.Prelude.{ℕ, List}
use Rattle.choose.specs.declared.decision.Verdict.{Verdict}
use Rattle.pieces.specs.declared.asked.Asked.{Asked}

-- a piece of what is asked, for how many verdicts there is room, and the kit for it
pub record Task (Kit : Type 0) : Type 0 where
  pub kit : Kit
  pub asked : Asked
  pub piece : ℕ
  pub room : ℕ

-- the verdicts on the nodes of a piece of what is asked, and the kit that found them
pub record Finding (Kit : Type 0) : Type 0 where
  pub kit : Kit
  pub asked : Asked
  pub piece : ℕ
  pub verdicts : List Verdict
