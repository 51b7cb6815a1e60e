use Rattle.std.proofs.Common.{rules}
use Rattle.crew.proofs.cycles.schedule_last.Goals as goal

-- `search rules` is found without this file too: with it, a wrong body that is tried here is
-- refused without a second run
pub returns-then-not-worker-clause-made : goal.returns-then-not-worker-clause-made
returns-then-not-worker-clause-made g c = search rules
