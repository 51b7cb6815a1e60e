use Rattle.std.proofs.Common.{rules}
use Rattle.engine.proofs.script.flush.Goals as goal

-- `search rules` is found without this file too: with it, a wrong body that is tried here is
-- refused without a second run
pub returns-clause-written : goal.returns-clause-written
returns-clause-written g c = search rules

pub returns-in_default-clause-front : goal.returns-in_default-clause-front
returns-in_default-clause-front g c = search rules
