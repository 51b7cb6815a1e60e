use Rattle.site.proofs.Decisions.{decided_by_calls}
use Rattle.site.proofs.laws.decided_by_calls.Goals as goal

pub returns : goal.returns
returns c = decided_by_calls c.rules_are_calls.ensures
