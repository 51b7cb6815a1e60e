use Rattle.plugin.proofs.CallLemmas.{rules_are_calls}
use Rattle.plugin.proofs.laws.rules_are_calls.Goals as goal

pub returns : goal.returns
returns c = rules_are_calls
