use Rattle.std.proofs.Common.{rules}
use Rattle.whost.proofs.records.RecordsHost.record.Goals as goal

-- `search rules` is found without this file too: with it, a wrong body that is tried here is
-- refused without a second run
pub returns-in-0 : goal.returns-in-0
returns-in-0 c = search rules
