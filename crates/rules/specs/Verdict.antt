-- What a rule says of a node.
use Rattle.std.specs.Prelude.{◌≤◌}
use Rattle.rules.specs.declared.verdict.ScoreVerdict.{ScoreVerdict}
use Rattle.rules.specs.declared.verdict.ScoreVerdict.TheVariants as score

-- a good score is at most 100
abbrev pub IsWithin : ScoreVerdict → Type 0
IsWithin (score.Good n) = n ≤ 100
IsWithin (score.Errs why) = Unit {0}
