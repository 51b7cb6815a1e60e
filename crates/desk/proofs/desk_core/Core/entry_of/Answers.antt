use Rattle.std.proofs.Common.{rules}
use Rattle.desk.proofs.desk_core.Core.entry_of.Goals as goal

-- `search rules` is found without this file too: with it, a wrong body that is tried here is
-- refused without a second run
pub returns-in-Some : goal.returns-in-Some
returns-in-Some c = search rules
