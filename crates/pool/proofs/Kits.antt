-- Kits that judge alike, of which the first decides and the others work for it.
use Rattle.std.proofs.Common.{◌≡◌, ◌<◌, ◌+◌, List, [], ◌∷◌, ◌++◌}
use Rattle.rules.specs.RuleSet.{RuleSet}
use Rattle.choose.specs.Verdict.{HasVerdict}
use Rattle.pool.specs.Speaking.{SpeaksFor}

-- and it says so itself
pub first_speaks : (rules : RuleSet) → SpeaksFor (λ pod node verdict. HasVerdict rules pod node verdict) rules
first_speaks rules = record { says = λ pod node verdict is. is; has = λ pod node verdict is. is }
