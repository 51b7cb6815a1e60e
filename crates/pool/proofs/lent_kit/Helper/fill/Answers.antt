use Rattle.std.proofs.Common.{rules}
use Rattle.pool.proofs.lent_kit.Helper.fill.Goals as goal

-- `search rules` is found without this file too: with it, a wrong body that is tried here is
-- refused without a second run
pub returns-clause-are : goal.returns-clause-are
returns-clause-are g c = search rules
